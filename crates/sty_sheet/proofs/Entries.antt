-- The entries of a map of styles by their markers, as the list of records that they stand for.
use Rattle.std.proofs.Common.{◌≡◌, ℕ, Bool, true, false, cond, List, [], ◌∷◌, map, drop, Option, None, Some, Result, Ok, Err, sym, refl, ap, ◌∙◌, subst, Bor}
use Rattle.std.specs.Prelude.{OnOk, OnErr}
use Rattle.std.specs.Option.{option_map}
use Rattle.std.specs.Str.{bytes_eq}
use Rattle.std.specs.Map.{lookup}
use Rattle.std.proofs.lemmas.Slice.Eq.{bytes_eq-Decides}
use Rattle.indexmap.specs.IndexMap.{insert_entry}
use Rattle.sty_sheet.specs.Loops.Steps.{put}
use Rattle.sty_sheet.specs.Records.{Record, named}
use Rattle.sty_sheet.specs.Views.{record_of}
use Rattle.sty_sheet.specs.declared.listed.Listed.{Listed}
use Rattle.sty_sheet.specs.declared.style.Style.{Style}

-- what a map of styles by markers has
abbrev pub Entries : Type 0
Entries = List (Bor (List ℕ) × Listed)

-- the markers that it goes by
abbrev pub texts : Entries → List (List ℕ)
texts es = map (λ e. e.0.now) es

-- the markers that its styles have
abbrev pub markers : Entries → List (List ℕ)
markers es = map (λ e. e.1.style.marker.now) es

-- its styles, as records
abbrev pub records : Entries → List Record
records es = map record_of (map (λ l. l.style) (map (λ e. e.1) es))

-- whether two lent markers are equal
abbrev pub key_eq : Bor (List ℕ) → Bor (List ℕ) → Bool
key_eq x y = bytes_eq x.now y.now

first : List (List ℕ) → List ℕ
first [] = []
first (x ∷ xs) = x

head_is : (x y : List ℕ) (xs ys : List (List ℕ)) → x ∷ xs ≡ y ∷ ys → x ≡ y
unfolding first
head_is x y xs ys h = ap first h

puts_by : (b : Bool) (e : Bor (List ℕ) × Listed) (v : Listed) (es fs : Entries) (rs : List Record) → records fs ≡ rs
    → records (cond b ((e.0, v) ∷ es) (e ∷ fs)) ≡ cond b (record_of v.style ∷ records es) (record_of e.1.style ∷ rs)
puts_by true e v es fs rs h = refl
puts_by false e v es fs rs h = ap (λ l. record_of e.1.style ∷ l) h

-- to insert a style is to put its record
pub puts : (es : Entries) (k : Bor (List ℕ)) (v : Listed) → k.now ≡ v.style.marker.now → texts es ≡ markers es
    → records (insert_entry key_eq es k v) ≡ put (records es) (record_of v.style)
puts [] k v h keyed = refl
puts (e ∷ es) k v h keyed =
    puts_by (bytes_eq k.now e.0.now) e v es (insert_entry key_eq es k v) _ (puts es k v h (ap (drop 1) keyed))
    ∙ (λ i. cond (bytes_eq (h i) (head_is _ _ (texts es) (markers es) keyed i)) (record_of v.style ∷ records es)
    (record_of e.1.style ∷ put (records es) (record_of v.style)))

keys_by : (b : Bool) (e : Bor (List ℕ) × Listed) (v : Listed) (es fs : Entries) → (b ≡ true → e.0.now ≡ v.style.marker.now)
    → e.0.now ≡ e.1.style.marker.now → texts es ≡ markers es → texts fs ≡ markers fs
    → texts (cond b ((e.0, v) ∷ es) (e ∷ fs)) ≡ markers (cond b ((e.0, v) ∷ es) (e ∷ fs))
keys_by true e v es fs same head tail other = λ i. same refl i ∷ tail i
keys_by false e v es fs same head tail other = λ i. head i ∷ other i

-- a map goes by its styles' markers still when one is inserted
pub keyed_after : (es : Entries) (k : Bor (List ℕ)) (v : Listed) → k.now ≡ v.style.marker.now → texts es ≡ markers es
    → texts (insert_entry key_eq es k v) ≡ markers (insert_entry key_eq es k v)
keyed_after [] k v h keyed = ap (λ x. x ∷ []) h
keyed_after (e ∷ es) k v h keyed =
    keys_by (bytes_eq k.now e.0.now) e v es (insert_entry key_eq es k v)
    (λ is. sym ((bytes_eq-Decides k.now e.0.now).0 is) ∙ h)
    (head_is _ _ (texts es) (markers es) keyed) (ap (drop 1) keyed) (keyed_after es k v h (ap (drop 1) keyed))

found_by : (b : Bool) (e : Listed) (o : Option Listed) (rs : Option Record) → option_map (λ l. record_of l.style) o ≡ rs
    → option_map (λ l. record_of l.style) (cond b (Some e) o) ≡ cond b (Some (record_of e.style)) rs
found_by true e o rs h = refl
found_by false e o rs h = h

-- what a map finds of a marker is the record of that name
pub finds : (es : Entries) (name : List ℕ) → texts es ≡ markers es
    → option_map (λ l. record_of l.style) (lookup (λ k. bytes_eq name k.now) es) ≡ named name (records es)
finds [] name keyed = refl
finds (e ∷ es) name keyed =
    found_by (bytes_eq name e.0.now) e.1 _ _ (finds es name (ap (drop 1) keyed))
    ∙ (λ i. cond (bytes_eq name (head_is _ _ (texts es) (markers es) keyed i)) (Some (record_of e.1.style)) (named name (records es)))

-- after an insertion, or where memory was refused
pub keyed_result : {A B : Type 0} (r : Result A B) (es fs : Entries) (k : Bor (List ℕ)) (v : Listed) → k.now ≡ v.style.marker.now
    → texts es ≡ markers es → OnOk r (fs ≡ insert_entry key_eq es k v) → OnErr r (fs ≡ es) → texts fs ≡ markers fs
keyed_result (Ok a) es fs k v h keyed ok err = subst (λ l. texts l ≡ markers l) (sym ok) (keyed_after es k v h keyed)
keyed_result (Err b) es fs k v h keyed ok err = subst (λ l. texts l ≡ markers l) (sym err) keyed

-- a lent style, as a record
pub copied : (o : Option (Bor Style)) (p : Option Style) → option_map (λ s. s.now) o ≡ p
    → option_map (λ s. record_of s.now) o ≡ option_map record_of p
copied None p h = ap (option_map record_of) h
copied (Some x) p h = ap (option_map record_of) h
