-- The words of steps.
use Rattle.std.proofs.Common.{◌≡◌, ℕ, Bool, true, false, List, [], ◌∷◌, ◌++◌, map, refl, ap, sym, subst, ◌∙◌, cond}
use Rattle.std.specs.List.{flat_map}
use Rattle.word_diff.specs.declared.part.Kind.{Kind}
use Rattle.word_diff.specs.declared.part.Part.{Part}
use Rattle.word_diff.specs.Common.{IsLongest}
use Rattle.word_diff.specs.Differences.{CutsNew, CutsOld, KeepsLongest}
use Rattle.word_diff.specs.Kinds.{is_kept, is_new, is_old}
use Rattle.word_diff.specs.Parts.{Span, spans, texts_of, words_by}
use Rattle.word_diff.specs.Words.{words_of}
use Rattle.word_diff.proofs.PartLemmas.{texts_of-append}
use Rattle.word_merge.specs.Steps.{LeadTo, steps_in, steps_of}

abbrev Words : Type 0
Words = List (List ℕ)

-- the words of steps of one kind, where that passes
texts_if : (p : Kind → Bool) (k : Kind) (b : Bool) (ws : Words) → p k ≡ b
    → texts_of p (map (λ (w : List ℕ). record { kind = k; bytes = w }) ws) ≡ cond b ws []
texts_if p k true [] e = refl
texts_if p k false [] e = refl
texts_if p k true (w ∷ ws) e =
    ap (λ (c : Bool). cond c (w ∷ texts_of p (map (λ (v : List ℕ). record { kind = k; bytes = v }) ws))
    (texts_of p (map (λ (v : List ℕ). record { kind = k; bytes = v }) ws))) e
    ∙ ap (λ (l : Words). w ∷ l) (texts_if p k true ws e)
texts_if p k false (w ∷ ws) e =
    ap (λ (c : Bool). cond c (w ∷ texts_of p (map (λ (v : List ℕ). record { kind = k; bytes = v }) ws))
    (texts_of p (map (λ (v : List ℕ). record { kind = k; bytes = v }) ws))) e
    ∙ texts_if p k false ws e

-- the words of parts, where those of one more are in front
more_words : (b : Bool) (w : List ℕ) (ts : Words)
    → cond b (words_of w) [] ++ flat_map words_of ts ≡ flat_map words_of (cond b (w ∷ ts) ts)
more_words true w ts = refl
more_words false w ts = refl

-- the steps of parts have the words of the parts
pub steps_words : (p : Kind → Bool) (ss : List Span) → texts_of p (steps_of ss) ≡ words_by p ss
steps_words p [] = refl
steps_words p (s ∷ ss) =
    texts_of-append p (steps_in s) (steps_of ss)
    ∙ ap (λ (l : Words). l ++ texts_of p (steps_of ss)) (texts_if p s.kind (p s.kind) (words_of s.bytes) refl)
    ∙ ap (λ (l : Words). cond (p s.kind) (words_of s.bytes) [] ++ l) (steps_words p ss)
    ∙ more_words (p s.kind) s.bytes (texts_of p ss)

-- the steps of what differs between two texts lead from one to the other
pub lead : (old new : List ℕ) (parts : List Part) (steps : List Span) → CutsOld parts old → CutsNew parts new → KeepsLongest parts old new
    → steps ≡ steps_of (spans parts) → LeadTo old new steps
lead old new parts steps cuts_old cuts_new longest is = record {
  from_old = ap (texts_of is_old) is ∙ steps_words is_old (spans parts) ∙ cuts_old;
  to_new = ap (texts_of is_new) is ∙ steps_words is_new (spans parts) ∙ cuts_new;
  longest = λ few. subst (λ (kept : Words). IsLongest kept (words_of old) (words_of new))
      (sym (ap (texts_of is_kept) is ∙ steps_words is_kept (spans parts))) (longest few);
}
