-- Putting the records one after the other gives each marker once, with its last record.
use Rattle.std.proofs.Common.{◌≡◌, ℕ, Bool, true, false, cond, List, [], ◌∷◌, ◌++◌, sym, refl, ap, ◌∙◌, append_assoc, append-nil}
use Rattle.std.specs.Prelude.{not, filter, if◌then◌else◌}
use Rattle.std.specs.List.{fold}
use Rattle.std.specs.Str.{bytes_eq}
use Rattle.std.proofs.lemmas.Slice.Eq.{bytes_eq-Decides}
use Rattle.sty_sheet.specs.Records.{Record}
use Rattle.sty_sheet.specs.Sheets.{of_marker, last_record, each_once}
use Rattle.sty_sheet.specs.Loops.Steps.{put}

same_test : (p q : Bool) → (p ≡ true → q ≡ true) → (q ≡ true → p ≡ true) → p ≡ q
same_test true q there back = sym (there refl)
same_test false true there back = back refl
same_test false false there back = refl

-- equality of bytes, read from the other side
pub bytes_eq-sym : (a b : List ℕ) → bytes_eq a b ≡ bytes_eq b a
bytes_eq-sym a b =
    same_test _ _ (λ h. (bytes_eq-Decides b a).1 (sym ((bytes_eq-Decides a b).0 h)))
    (λ h. (bytes_eq-Decides a b).1 (sym ((bytes_eq-Decides b a).0 h)))

-- without the records of a marker
others : List ℕ → List Record → List Record
others m rs = filter (λ q. not (of_marker m q)) rs

kept_by : (b : Record) (t : Bool) (q : Record) → of_marker b.marker q ≡ t → (if t then q else b).marker ≡ b.marker
kept_by b true q h = sym ((bytes_eq-Decides b.marker q.marker).0 h)
kept_by b false q h = refl

kept : (b q : Record) → (if of_marker b.marker q then q else b).marker ≡ b.marker
kept b q = kept_by b (of_marker b.marker q) q refl

last_marker : (b : Record) (bs : List Record) → (last_record b bs).marker ≡ b.marker
last_marker b [] = refl
last_marker b (q ∷ qs) = last_marker (if of_marker b.marker q then q else b) qs ∙ kept b q

last_push : (b : Record) (bs : List Record) (r : Record) → last_record b (bs ++ (r ∷ []))
    ≡ (if of_marker b.marker r then r else last_record b bs)
last_push b [] r = refl
last_push b (q ∷ qs) r =
    last_push (if of_marker b.marker q then q else b) qs r ∙ ap (λ m. cond (of_marker m r) r (last_record b (q ∷ qs))) (kept b q)

same_by : (m : List ℕ) (q r : Record) (qs : List Record) (t n : Bool) → bytes_eq r.marker q.marker ≡ t → of_marker m q ≡ n
    → of_marker m r ≡ true → others m (put qs r) ≡ others m qs
    → others m (cond t (r ∷ qs) (q ∷ put qs r)) ≡ cond (not n) (q ∷ others m qs) (others m qs)
unfolding others
same_by m q r qs true true same is mr rest = ap (λ n. cond (not n) (r ∷ others m qs) (others m qs)) mr
same_by m q r qs true false same is mr rest =
    let no : false ≡ true = sym is ∙ (bytes_eq-Decides m q.marker).1
    ((bytes_eq-Decides m r.marker).0 mr ∙ (bytes_eq-Decides r.marker q.marker).0 same) in
    absurd (cc)
same_by m q r qs false true same is mr rest = ap (λ n. cond (not n) (q ∷ others m (put qs r)) (others m (put qs r))) is ∙ rest
same_by m q r qs false false same is mr rest =
    ap (λ n. cond (not n) (q ∷ others m (put qs r)) (others m (put qs r))) is ∙ ap (λ l. q ∷ l) rest

-- a record of the marker that is left out changes nothing
put_same : (m : List ℕ) (rs : List Record) (r : Record) → of_marker m r ≡ true → others m (put rs r) ≡ others m rs
unfolding others
put_same m [] r mr = ap (λ n. cond (not n) (r ∷ []) []) mr
put_same m (q ∷ qs) r mr = same_by m q r qs (bytes_eq r.marker q.marker) (of_marker m q) refl refl mr (put_same m qs r mr)

other_by : (m : List ℕ) (q r : Record) (qs : List Record) (t n : Bool) → bytes_eq r.marker q.marker ≡ t → of_marker m q ≡ n
    → of_marker m r ≡ false → others m (put qs r) ≡ put (others m qs) r
    → others m (cond t (r ∷ qs) (q ∷ put qs r)) ≡ put (cond (not n) (q ∷ others m qs) (others m qs)) r
unfolding others
other_by m q r qs true true same is mr rest =
    let no : false ≡ true = sym mr ∙ (bytes_eq-Decides m r.marker).1
    ((bytes_eq-Decides m q.marker).0 is ∙ sym ((bytes_eq-Decides r.marker q.marker).0 same)) in
    absurd (cc)
other_by m q r qs true false same is mr rest =
    ap (λ n. cond (not n) (r ∷ others m qs) (others m qs)) mr ∙ ap (λ t. cond t (r ∷ others m qs) (q ∷ put (others m qs) r)) (sym same)
other_by m q r qs false true same is mr rest = ap (λ n. cond (not n) (q ∷ others m (put qs r)) (others m (put qs r))) is ∙ rest
other_by m q r qs false false same is mr rest =
    ap (λ n. cond (not n) (q ∷ others m (put qs r)) (others m (put qs r))) is ∙ ap (λ l. q ∷ l) rest
    ∙ ap (λ t. cond t (r ∷ others m qs) (q ∷ put (others m qs) r)) (sym same)

put_other : (m : List ℕ) (rs : List Record) (r : Record) → of_marker m r ≡ false → others m (put rs r) ≡ put (others m rs) r
unfolding others
put_other m [] r mr = ap (λ n. cond (not n) (r ∷ []) []) mr
put_other m (q ∷ qs) r mr = other_by m q r qs (bytes_eq r.marker q.marker) (of_marker m q) refl refl mr (put_other m qs r mr)

push_by : (b r : Record) (bs : List Record) (t : Bool) → of_marker b.marker r ≡ t
    → cond t r (last_record b bs) ∷ others b.marker (put (each_once bs) r)
    ≡ cond t (r ∷ others b.marker (each_once bs)) (last_record b bs ∷ put (others b.marker (each_once bs)) r)
push_by b r bs true is = ap (λ l. r ∷ l) (put_same b.marker (each_once bs) r is)
push_by b r bs false is = ap (λ l. last_record b bs ∷ l) (put_other b.marker (each_once bs) r is)

each_push : (rs : List Record) (r : Record) → each_once (rs ++ (r ∷ [])) ≡ put (each_once rs) r
unfolding others
each_push [] r = refl
each_push (b ∷ bs) r =
    (λ i. last_push b bs r i ∷ others b.marker (each_push bs r i)) ∙ push_by b r bs (of_marker b.marker r) refl
    ∙ ap (λ t. cond t (r ∷ others b.marker (each_once bs)) (last_record b bs ∷ put (others b.marker (each_once bs)) r))
    (bytes_eq-sym b.marker r.marker ∙ ap (bytes_eq r.marker) (sym (last_marker b bs)))

puts_from : (before rs : List Record) → fold put (each_once before) rs ≡ each_once (before ++ rs)
puts_from before [] = ap each_once (sym (append-nil before))
puts_from before (r ∷ rs) =
    ap (λ l. fold put l rs) (sym (each_push before r)) ∙ puts_from (before ++ (r ∷ [])) rs ∙ ap each_once (append_assoc before (r ∷ []) rs)

-- all records put one after the other are each marker's last one, once
pub puts_all : (rs : List Record) → fold put [] rs ≡ each_once rs
puts_all rs = puts_from [] rs
