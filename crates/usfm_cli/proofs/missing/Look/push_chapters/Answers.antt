use Rattle.std.proofs.Common.{◌∙◌, ◌++◌, List, ℕ, sym, ap}
use Rattle.std.specs.List.{flat_map}
use Rattle.std.proofs.lemmas.List.{append_assoc}
use Rattle.versification.specs.Views.{verses_in}
use Rattle.missing_verses.specs.Numbers.{below}
use Rattle.missing_verses.proofs.Below.{below_none, below_more, append_none}
use Rattle.usfm_cli.specs.Missing.{named_lines}
use Rattle.usfm_cli.proofs.missing.Look.push_chapters.Goals as goal

pub loop-chapter-init : goal.loop-chapter-init
loop-chapter-init c =
    let self = c.args.self.now in
    let f = named_lines (verses_in self.versification.now) self.parts.now c.args.book c.args.text.now in
    let bytes = c.args.bytes.now.items in
    sym (ap (λ (xs : List ℕ). bytes ++ xs) (below_none f) ∙ append_none bytes)

pub loop-chapter-preserved : goal.loop-chapter-preserved
loop-chapter-preserved c =
    let self = c.args.self.now in
    let f = named_lines (verses_in self.versification.now) self.parts.now c.args.book c.args.text.now in
    let n = c.loop-chapter.chapter in
    let bytes = c.args.bytes.now.items in
    c.in_ok-push_chapter.ensures
    ∙ ap (λ (xs : List ℕ). xs ++ f n) c.loop-chapter.invariant
    ∙ append_assoc bytes (flat_map f (below n)) (f n)
    ∙ ap (λ (xs : List ℕ). bytes ++ xs) (sym (below_more f n))
