-- The findings at a mark, one code after the other.
use Rattle.std.proofs.Common.{◌≡◌, ℕ, Bool, true, false, cond, List, [], ◌∷◌, ◌++◌, map, sym, ap, ◌∙◌, append_assoc, append-nil}
use Rattle.std.specs.Prelude.{filter}
use Rattle.usfm_ref.specs.Keys.{KeyParts}
use Rattle.segment_check.specs.Reading.{holds_in, findings_with}
use Rattle.segment_check.specs.declared.code.Code.{Code}
use Rattle.segment_check.specs.declared.code.Code.TheVariants as code
use Rattle.segment_check.specs.declared.finding.Finding.{Finding}
use Rattle.segment_check.specs.declared.marks.Held.{Held}

-- one code that holds or not, and then others
one_more : (tell : Code → Finding) (b : Bool) (x : Code) (rest : List Code) (old mid new : List Finding)
    → mid ≡ old ++ cond b (tell x ∷ []) [] → new ≡ mid ++ map tell rest → new ≡ old ++ map tell (cond b (x ∷ rest) rest)
one_more tell true x rest old mid new e h = h ∙ ap (λ l. l ++ map tell rest) e ∙ append_assoc old (tell x ∷ []) (map tell rest)
one_more tell false x rest old mid new e h = h ∙ ap (λ l. l ++ map tell rest) (e ∙ append-nil old)

module _ (held : Held) (start : ℕ) (key : KeyParts) where
  abbrev pub tell : Code → Finding
  tell c = record { code = c; start = start; key = key }

  -- what is put after others for a code
  abbrev pub part : Code → List Finding
  part c = cond (holds_in held c) (tell c ∷ []) []

  pub all_told : (l0 l1 l2 l3 l4 l5 l6 l7 l8 l9 l10 : List Finding) → l1 ≡ l0 ++ part code.UnknownMarker → l2 ≡ l1 ++ part code.StrayClose
      → l3 ≡ l2 ++ part code.UnclosedChar → l4 ≡ l3 ++ part code.UnclosedNote → l5 ≡ l4 ++ part code.TooDeep
      → l6 ≡ l5 ++ part code.BadNumber → l7 ≡ l6 ++ part code.BadBridge → l8 ≡ l7 ++ part code.NotRising → l9 ≡ l8 ++ part code.Overlap
      → l10 ≡ l9 ++ part code.NotUnder → l10 ≡ l0 ++ findings_with held start key
  all_told l0 l1 l2 l3 l4 l5 l6 l7 l8 l9 l10 h1 h2 h3 h4 h5 h6 h7 h8 h9 h10 =
      one_more tell (holds_in held code.UnknownMarker) code.UnknownMarker
      (filter (holds_in held) (code.StrayClose ∷ code.UnclosedChar ∷ code.UnclosedNote ∷ code.TooDeep ∷ code.BadNumber ∷ code.BadBridge
      ∷ code.NotRising ∷ code.Overlap ∷ code.NotUnder ∷ [])) l0 l1 l10 h1
      (one_more tell (holds_in held code.StrayClose) code.StrayClose
      (filter (holds_in held) (code.UnclosedChar ∷ code.UnclosedNote ∷ code.TooDeep ∷ code.BadNumber ∷ code.BadBridge ∷ code.NotRising
      ∷ code.Overlap ∷ code.NotUnder ∷ [])) l1 l2 l10 h2
      (one_more tell (holds_in held code.UnclosedChar) code.UnclosedChar
      (filter (holds_in held) (code.UnclosedNote ∷ code.TooDeep ∷ code.BadNumber ∷ code.BadBridge ∷ code.NotRising ∷ code.Overlap
      ∷ code.NotUnder ∷ [])) l2 l3 l10 h3
      (one_more tell (holds_in held code.UnclosedNote) code.UnclosedNote
      (filter (holds_in held) (code.TooDeep ∷ code.BadNumber ∷ code.BadBridge ∷ code.NotRising ∷ code.Overlap ∷ code.NotUnder ∷ [])) l3 l4
      l10 h4
      (one_more tell (holds_in held code.TooDeep) code.TooDeep
      (filter (holds_in held) (code.BadNumber ∷ code.BadBridge ∷ code.NotRising ∷ code.Overlap ∷ code.NotUnder ∷ [])) l4 l5 l10 h5
      (one_more tell (holds_in held code.BadNumber) code.BadNumber
      (filter (holds_in held) (code.BadBridge ∷ code.NotRising ∷ code.Overlap ∷ code.NotUnder ∷ [])) l5 l6 l10 h6
      (one_more tell (holds_in held code.BadBridge) code.BadBridge
      (filter (holds_in held) (code.NotRising ∷ code.Overlap ∷ code.NotUnder ∷ [])) l6 l7 l10 h7
      (one_more tell (holds_in held code.NotRising) code.NotRising (filter (holds_in held) (code.Overlap ∷ code.NotUnder ∷ [])) l7 l8 l10 h8
      (one_more tell (holds_in held code.Overlap) code.Overlap (filter (holds_in held) (code.NotUnder ∷ [])) l8 l9 l10 h9
      (one_more tell (holds_in held code.NotUnder) code.NotUnder (filter (holds_in held) ([])) l9 l10 l10 h10
      (sym (append-nil l10)))))))))))
