-- What the steps of two changes tell of the texts.
use Rattle.std.proofs.Common.{◌≡◌, ℕ, List, Option, None, Some, IfSome, option_map, string_bytes, String, Global, ap, sym, ◌∙◌}
use Rattle.word_diff.specs.Kinds.{is_new, is_old}
use Rattle.word_diff.specs.Parts.{Span, texts_of}
use Rattle.word_merge.specs.Merging.{merged}
use Rattle.word_merge.specs.Pieces.{IsBoth}
use Rattle.word_merge.specs.Steps.{AreOfOnePlace, LeadTo}
use Rattle.word_merge.proofs.Fated.{common_words, one_words, other_words}
use Rattle.word_merge.proofs.Joined.{none_found, pieces_found}

-- what is found has both changes
pub both_is : (common one other : List ℕ) (xs ys : List Span) (found : Option (String Global))
    → LeadTo common one xs → LeadTo common other ys
    → option_map (λ t. string_bytes t) found ≡ merged xs ys → IfSome found (λ t. IsBoth common one other (string_bytes t))
both_is common one other xs ys None to_one to_other is = tt
both_is common one other xs ys (Some text) to_one to_other is =
    let p = pieces_found xs ys (string_bytes text) (sym is) in record {
      pieces = p.0;
      changed = sym (common_words p.0) ∙ ap (texts_of is_old) p.1.one ∙ to_one.from_old;
      of_one = sym (one_words p.0) ∙ ap (texts_of is_new) p.1.one ∙ to_one.to_new;
      of_other = sym (other_words p.0) ∙ ap (texts_of is_new) p.1.other ∙ to_other.to_new;
      of_both = p.2;
      apart = p.1.apart;
    }

-- where nothing is found, they are of one place
pub of_one_place : (common one other : List ℕ) (xs ys : List Span) (found : Option (String Global))
    → LeadTo common one xs → LeadTo common other ys
    → option_map (λ t. string_bytes t) found ≡ merged xs ys → found ≡ None → AreOfOnePlace common one other
of_one_place common one other xs ys found to_one to_other is none = record {
  xs = xs;
  ys = ys;
  to_one = to_one;
  to_other = to_other;
  never = none_found xs ys (sym is ∙ ap (option_map (λ t. string_bytes t)) none);
}
