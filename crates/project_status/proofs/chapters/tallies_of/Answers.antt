use Rattle.std.proofs.Common.{◌≡◌, ◌+◌, ◌<◌, ◌≤◌, length, Vec, Global, false, take, get_or, sym, ap, subst, ◌∙◌, arith}
use Rattle.std.proofs.lemmas.Grind.{common_steps}
use Rattle.std.proofs.lemmas.List.{get_or_default}
use Rattle.project_status.specs.declared.chapters.Tally.{Tally}
use Rattle.project_status.specs.declared.verses.Verse.{Verse}
use Rattle.project_status.specs.Progress.{in_chapter}
use Rattle.project_status.specs.Loops.Tallies.{none_counted, tally_of, with_verse}
use Rattle.project_status.proofs.Tallies.{tally_none, tally_within}
use Rattle.project_status.proofs.InTurn.{Kept, kept_with, kept_without}
use Rattle.project_status.proofs.chapters.tallies_of.Goals.{then-place-len, else-place-len}
use Rattle.project_status.proofs.chapters.tallies_of.Goals as goal

abbrev no_verse : Verse
no_verse = record { chapter = 0; first = 0; last = 0; written = false }

pub loop-verse-init : goal.loop-verse-init
loop-verse-init c =
    let items = c.in_ok-tallies.tallies.items in (
      grind (arith, common_steps),
      λ n low. let fresh : get_or items n none_counted ≡ none_counted = grind (arith, common_steps, low) in fresh ∙ sym tally_none,
    )

pub with-requires : goal.with-requires
with-requires c =
    let v = get_or c.args.verses.now c.loop-verse.verse-index no_verse in
    let t = c.index.result.now in
    let items = c.loop-verse.tallies.items in
    let inv = c.loop-verse.invariant in
    let less : v.chapter < length items = omega (arith, c.if-place-len.true, c.len.ensures, c.loop-verse.tallies.ok.0) in
    let low : v.chapter < 1000 = omega (arith, less, inv.0) in
    let is : t ≡ tally_of (in_chapter v.chapter (take c.loop-verse.verse-index c.args.verses.now)) =
    c.index.ensures ∙ get_or_default items v.chapter t none_counted less ∙ inv.1 v.chapter low in
    subst (λ (u : Tally). u.written ≤ u.reached) (sym is)
    (tally_within (in_chapter v.chapter (take c.loop-verse.verse-index c.args.verses.now)))

pub loop-verse-preserved : goal.loop-verse-preserved
loop-verse-preserved c = elim c.if-place-len.branch [
  | then-place-len w ↦
      let i = c.loop-verse.verse-index in
      let v = get_or c.args.verses.now i no_verse in
      let items = c.loop-verse.tallies.items in
      let less : v.chapter < length items = omega (arith, w.if-place-len.true, c.len.ensures, c.loop-verse.tallies.ok.0) in
      let is : v ≡ get_or c.args.verses.now i v = get_or_default c.args.verses.now i no_verse v c.loop-verse-test.true in
      let t : w.with.result ≡ with_verse (get_or items v.chapter none_counted) v =
      w.with.ensures
      ∙ ap (λ (u : Tally). with_verse u v) (w.index.ensures ∙ get_or_default items v.chapter w.index.result.now none_counted less) in
      let kept = kept_with c.args.verses.now i v c.loop-verse-test.true is c.requires items w.with.result c.loop-verse.invariant less t in
      subst (Kept (take (i + 1) c.args.verses.now)) (sym (ap (λ (it : Vec Tally Global). it.items) w.tallies-is)) kept
  | else-place-len w ↦
      let i = c.loop-verse.verse-index in
      let v = get_or c.args.verses.now i no_verse in
      let items = c.loop-verse.tallies.items in
      let far : length items ≤ v.chapter = omega (arith, w.if-place-len.false, c.len.ensures, c.loop-verse.tallies.ok.0) in
      let is : v ≡ get_or c.args.verses.now i v = get_or_default c.args.verses.now i no_verse v c.loop-verse-test.true in
      subst (Kept (take (i + 1) c.args.verses.now)) (sym (ap (λ (it : Vec Tally Global). it.items) w.tallies-is))
      (kept_without c.args.verses.now i v c.loop-verse-test.true is items c.loop-verse.invariant far)
]
