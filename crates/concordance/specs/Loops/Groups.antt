-- The keys of each form, gathered: what they say.
use Rattle.std.specs.Prelude.{◌≡◌, ℕ, ◌==◌, Bool, ◌||◌, List, map, length}
use Rattle.std.specs.List.{flat_map, list_any}
use Rattle.std.specs.Ordering.{is_eq}
use Rattle.std.specs.Borrow.{Bor}
use Rattle.std.specs.Global.{Vec}
use Rattle.usfm_ref.specs.Keys.{KeyParts}
use Rattle.usfm_ref.specs.Rising.{rises_by}
use Rattle.concordance.specs.Loops.SpellingOrder.{spelling_cmp}
use Rattle.concordance.specs.Words.{Spelling, form_cmp, form_of}

-- a form, and keys at which it occurs, in the order in which they came
abbrev pub Group : Type 0
Group = Bor (List ℕ) × Vec KeyParts

-- a form with each of some keys, as spellings
abbrev pub spellings_with : List ℕ → List KeyParts → List Spelling
spellings_with form keys = map (λ k. record { form = form; key = k }) keys

-- the spellings of a group: its form with each of its keys
abbrev pub group_spellings : Group → List Spelling
group_spellings g = spellings_with g.0.now g.1.items

-- the spellings of all groups
abbrev pub all_spellings : List Group → List Spelling
all_spellings gs = flat_map group_spellings gs

-- one has no key
abbrev pub is_bare : Group → Bool
is_bare g = length g.1.items == 0

-- some group has no key
abbrev pub has_bare : List Group → Bool
has_bare gs = list_any is_bare gs

-- their forms rise
abbrev pub rise : List Group → Bool
rise gs = rises_by form_cmp (λ g. g.0.now) gs

-- a spelling is among some
abbrev pub is_spelled : Spelling → List Spelling → Bool
is_spelled s ss = list_any (λ t. is_eq (spelling_cmp s t)) ss

-- two lists say the same spellings, whatever their order and however often
abbrev pub SpellsSame : List Spelling → List Spelling → Type 0
SpellsSame ss ts = (s : Spelling) → is_spelled s ss ≡ is_spelled s ts

-- the last list says what the first two do
abbrev pub SpellsBoth : List Spelling → List Spelling → List Spelling → Type 0
SpellsBoth ss more ts = (s : Spelling) → is_spelled s ts ≡ (is_spelled s ss || is_spelled s more)

-- a spelling of a run, composed
abbrev pub composed : Spelling → Spelling
composed s = record { form = form_of s.form; key = s.key }

-- the form of a group of a run
abbrev pub form_at : Group → List ℕ
form_at g = form_of g.0.now
