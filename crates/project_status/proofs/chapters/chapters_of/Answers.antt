use Rattle.std.proofs.Common.{◌≡◌, ◌<◌, List, ℕ, ◌++◌, length, sym, ap, subst, ◌∙◌, arith}
use Rattle.std.proofs.lemmas.List.{get_or_default}
use Rattle.std.specs.List.{flat_map}
use Rattle.versification.specs.Views.{verses_in}
use Rattle.project_status.specs.declared.chapters.Chapter.{Chapter}
use Rattle.project_status.specs.declared.chapters.Tally.{Tally}
use Rattle.project_status.specs.declared.verses.Verse.{Verse}
use Rattle.project_status.specs.Loops.Tallies.{AreInTurn, chapter_with, none_counted, tally_of}
use Rattle.project_status.specs.Progress.{below, chapter_of, in_chapter}
use Rattle.project_status.specs.Verses.{verses_of}
use Rattle.project_status.proofs.InTurn.{verses_in_turn, below_more, below_none}
use Rattle.project_status.proofs.chapters.chapters_of.Goals as goal

pub tallies_of-requires : goal.tallies_of-requires
tallies_of-requires c =
    subst AreInTurn (sym (c.deref.ensures.value ∙ c.in_ok-verses.ensures)) (verses_in_turn c.args.set.now c.args.book)

pub loop-chapter-init : goal.loop-chapter-init
loop-chapter-init c =
    let v = verses_in c.args.versification.now in
    c.new-found.ensures.items
    ∙ sym (below_none (λ (k : ℕ). chapter_of v c.args.book k (in_chapter k (verses_of c.args.set.now c.args.book))))

pub loop-chapter-preserved : goal.loop-chapter-preserved
loop-chapter-preserved c =
    let v = verses_in c.args.versification.now in
    let book = c.args.book in
    let n = c.loop-chapter.chapter in
    let vs = verses_of c.args.set.now book in
    let f = λ (k : ℕ). chapter_of v book k (in_chapter k vs) in
    let items = c.in_ok-tallies.tallies.items in
    let t = c.index-tally.result.now in
    let kept = c.in_ok-tallies.ensures in
    let low : n < 1000 = c.loop-chapter-test.true in
    let less : n < length items = omega (arith, low, kept.0) in
    let same = c.deref.ensures.value ∙ c.in_ok-verses.ensures in
    let again = c.deref-in-loop-chapter.ensures.value ∙ c.in_ok-verses.ensures in
    let is : t ≡ tally_of (in_chapter n vs) =
    c.index-tally.ensures ∙ get_or_default items n t none_counted less ∙ kept.1 n low
    ∙ ap (λ (ws : List Verse). tally_of (in_chapter n ws)) same in
    c.in_ok-push_chapter.ensures
    ∙ ap (λ (xs : List Chapter). xs ++ chapter_with v book n (in_chapter n c.deref-in-loop-chapter.result.now) t) c.loop-chapter.invariant
    ∙ ap (λ (ws : List Verse). flat_map f (below n) ++ chapter_with v book n (in_chapter n ws) t) again
    ∙ ap (λ (u : Tally). flat_map f (below n) ++ chapter_with v book n (in_chapter n vs) u) is
    ∙ sym (below_more f n)

pub returns : goal.returns
returns c =
    let n = c.loop-chapter.chapter in
    let v = verses_in c.args.versification.now in
    let f = λ (k : ℕ). chapter_of v c.args.book k (in_chapter k (verses_of c.args.set.now c.args.book)) in
    let e : n ≡ 1000 = omega (arith, c.loop-chapter-test.false, c.loop-chapter.auto.chapter-end) in
    c.loop-chapter.invariant ∙ ap (λ (k : ℕ). flat_map f (below k)) e
