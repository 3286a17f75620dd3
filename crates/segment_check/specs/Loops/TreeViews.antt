-- What a tree says of its marks, by what the nodes around them decide.
use Rattle.sty_sheet.specs.declared.kind.StyleKind.{StyleKind}
use Rattle.sty_sheet.specs.declared.kind.StyleKind.TheVariants as kinds
use Rattle.std.specs.Prelude.{ℕ, ◌-◌, ◌==◌, Bool, true, false, not, ◌&&◌, List, [], ◌∷◌, ◌++◌}
use Rattle.std.specs.Prelude.{length, map, codes, Option, None, Some, find}
use Rattle.std.specs.Prelude.{if◌then◌else◌}
use Rattle.std.specs.Option.{is_some, option_map, option_map_or, option_to_list}
use Rattle.std.specs.List.{list_any}
use Rattle.sty_sheet.specs.Records.{Record, mark_style}
use Rattle.usfm_token.specs.Tokens.{MarkParts}
use Rattle.usfm_tree.specs.Around.{Around}
use Rattle.usfm_tree.specs.Forest.{Forest}
use Rattle.usfm_tree.specs.Reading.{is_character_kind, is_note_kind}
use Rattle.segment_check.specs.Sights.{sights}
use Rattle.segment_check.specs.TreeConditions.{is_note, is_paragraph, holds_characters}
use Rattle.segment_check.specs.TreeConditions.{may_begin, under_words, forbids, is_restricted_kind}
use Rattle.segment_check.specs.Reading.{seen_at}
use Rattle.segment_check.specs.declared.inside.Allowed.{Allowed}
use Rattle.segment_check.specs.declared.inside.Inside.{Inside}
use Rattle.segment_check.specs.declared.seen.Seen.{Seen}

-- what holds of each mark within these nodes
abbrev pub seen_in : List Record → List Around → Forest → List Seen
seen_in sheet around f = map (seen_at sheet) (sights around f)

-- what the nodes around a place decide: whether one is a note, how many nodes more may be inside,
-- the name of the innermost if it is a character node, and those of the nearest paragraph or note
-- and of the nearest paragraph
pub record Surroundings : Type 0 where
  pub in_note : Bool
  pub room : ℕ
  pub character : Option (List ℕ)
  pub holder : Option (List ℕ)
  pub paragraph : Option (List ℕ)

-- the name of the innermost node, if it is a character node
abbrev pub direct_character : List Around → Option (List ℕ)
direct_character [] = None
direct_character (a ∷ around) = if is_character_kind a.kind then Some a.mark.name else None

-- what these nodes around a place decide
abbrev pub surroundings_of : List Around → Surroundings
surroundings_of around = record {
  in_note = list_any is_note around;
  room = 64 - length around;
  character = direct_character around;
  holder = option_map (λ a. a.mark.name) (find holds_characters around);
  paragraph = option_map (λ a. a.mark.name) (find is_paragraph around);
}

-- what the nodes around a place decide, as a walk keeps it
abbrev pub inside_view : Inside → Surroundings
inside_view i = record {
  in_note = i.in_note;
  room = i.room;
  character = option_map (λ n. n.now) i.character;
  holder = option_map (λ n. n.now) i.holder;
  paragraph = option_map (λ n. n.now) i.paragraph;
}

-- the surroundings within one node more
abbrev pub entering : StyleKind → List ℕ → Surroundings → Surroundings
entering kinds.Paragraph name i =
    record i { room = i.room - 1; character = None; holder = Some name; paragraph = Some name }
entering kinds.Character name i = record i { room = i.room - 1; character = Some name }
entering kinds.Note name i =
    record i { in_note = true; room = i.room - 1; character = None; holder = Some name }
entering kinds.Milestone name i = record i { room = i.room - 1; character = None }

-- the words that allow a character node there
abbrev pub allowing_character : Surroundings → List (List ℕ)
allowing_character i = elim i.character [
  | None ↦ option_to_list i.holder
  | Some name ↦ name ∷ codes "NEST" ∷ []
]

-- the words that allow a node of a kind there
abbrev pub allowing : StyleKind → Surroundings → List (List ℕ)
allowing kinds.Paragraph i = []
allowing kinds.Character i = allowing_character i
allowing kinds.Note i = option_to_list i.paragraph
allowing kinds.Milestone i = []

-- the words that a value stands for: a name, if there is one, and perhaps NEST
abbrev pub allowed_names : Allowed → List (List ℕ)
allowed_names a =
    option_to_list (option_map (λ n. n.now) a.name) ++ (if a.nest then codes "NEST" ∷ [] else [])

-- a character or note node with these words of OccursUnder, none of which allows it there
abbrev pub is_misplaced : List (List ℕ) → Surroundings → StyleKind → Bool
is_misplaced words i kind = is_restricted_kind kind && forbids words (allowing kind i)

-- which of the conditions of the tree hold of a mark, by what the nodes around it decide
abbrev pub seen_by : List Record → Surroundings → MarkParts → Option StyleKind → Bool → Seen
seen_by sheet i m kind is_closed = record {
  unknown_marker = not m.closing && not (is_some (mark_style sheet m.name));
  stray_close = not (is_some kind) && m.closing;
  unclosed_char = option_map_or is_character_kind kind false && not is_closed && not i.in_note;
  unclosed_note = option_map_or is_note_kind kind false && not is_closed;
  too_deep = not (is_some kind) && may_begin sheet m && (i.room == 0);
  not_under = option_map_or (is_misplaced (under_words sheet m.name) i) kind false;
}
