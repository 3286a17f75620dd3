-- What a mark does not begin.
use Rattle.sty_sheet.specs.Records.{is_milestone}
use Rattle.sty_sheet.specs.declared.kind.StyleKind.{StyleKind}
use Rattle.sty_sheet.specs.declared.kind.StyleKind.TheVariants as kinds
use Rattle.std.proofs.Common.{◌≡◌, ◌≢◌, ◌∙◌, ℕ, false, cond, List, Option, None, Some, refl, sym, ap}
use Rattle.std.proofs.lemmas.Bool.{true≢false}
use Rattle.usfm_token.specs.Tokens.{MarkParts, Lexeme, mark, words}
use Rattle.usfm_tree.specs.Reading.{Style, Styles, Role, plain, alone, spans, opens, closes, styled, marked, role}
use Rattle.usfm_tree.proofs.ReadingLemmas.{either}

-- no node begins in this role whose kind is Milestone
abbrev pub OpensNoMilestone : Role → Type 0
OpensNoMilestone (plain b) = Unit {0}
OpensNoMilestone (alone m) = Unit {0}
OpensNoMilestone (spans m) = Unit {0}
OpensNoMilestone (opens kind closer m) = kind ≢ kinds.Milestone
OpensNoMilestone (closes m) = Unit {0}

other_kind : (k : StyleKind) → is_milestone (Some k) ≡ false → k ≢ kinds.Milestone
other_kind k other is = true≢false (sym (ap (λ x. is_milestone (Some x)) is) ∙ other)

-- a mark that is a leaf with '+', and else begins a node of another kind
not_nested : (m : MarkParts) (c : Option (List ℕ)) (k : StyleKind) → is_milestone (Some k) ≡ false
    → OpensNoMilestone (cond m.nested (alone m) (opens k c m))
not_nested m c k other = either OpensNoMilestone m.nested (alone m) (opens k c m) tt (other_kind k other)

styled_opens : (m : MarkParts) (c : Option (List ℕ)) (k : Option StyleKind) → OpensNoMilestone (styled m c k)
styled_opens m None None = tt
styled_opens m (Some n) None = tt
styled_opens m None (Some kinds.Character) = tt
styled_opens m (Some n) (Some kinds.Character) = other_kind kinds.Character refl
styled_opens m None (Some kinds.Milestone) = either OpensNoMilestone m.nested (alone m) (spans m) tt tt
styled_opens m (Some n) (Some kinds.Milestone) = either OpensNoMilestone m.nested (alone m) (spans m) tt tt
styled_opens m None (Some kinds.Paragraph) = not_nested m None kinds.Paragraph refl
styled_opens m (Some n) (Some kinds.Paragraph) = not_nested m (Some n) kinds.Paragraph refl
styled_opens m None (Some kinds.Note) = not_nested m None kinds.Note refl
styled_opens m (Some n) (Some kinds.Note) = not_nested m (Some n) kinds.Note refl

marked_opens : (m : MarkParts) (s : Option Style) → OpensNoMilestone (marked m s)
marked_opens m None = tt
marked_opens m (Some s) = styled_opens m s.closer s.kind

-- no token begins a node whose kind is Milestone
pub role_opens : (styles : Styles) (t : Lexeme) → OpensNoMilestone (role styles t)
role_opens styles (words b) = tt
role_opens styles (mark m) =
    either OpensNoMilestone m.closing (closes m) (marked m (styles m.name)) tt (marked_opens m (styles m.name))
