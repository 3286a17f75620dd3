-- The plain leaves are what the reading of the tree gives, and they fit.
use Rattle.sty_sheet.specs.declared.kind.StyleKind.{StyleKind}
use Rattle.std.proofs.Common.{◌≡◌, ℕ, ◌+◌, ◌^◌, ◌<◌, Bool, true, false, cond, List, [], ◌∷◌, ◌++◌}
use Rattle.std.proofs.Common.{length, map, filter, Option, None, Some, refl, sym, ap, subst, ◌∙◌}
use Rattle.std.proofs.Common.{arith, length-append}
use Rattle.std.specs.Prelude.{is_some}
use Rattle.sty_sheet.specs.Records.{Record}
use Rattle.usfm_token.specs.Tokens.{MarkParts, mark_bytes}
use Rattle.usfm_tree.specs.Around.{Around}
use Rattle.usfm_tree.specs.Forest.{Forest, nothing, text, leaf, node, bytes_of, span_bytes}
use Rattle.usfm_tree.specs.Forest.{close_bytes}
use Rattle.usfm_tree.specs.Places.{Runs}
use Rattle.usfm_tree.proofs.SpanLemmas.{span_is, bytes_then}
use Rattle.concordance.specs.Passages.{Passage}
use Rattle.concordance.specs.Plain.{Site, is_nothing, node_end, mark_at_end, sites_in, is_plain}
use Rattle.concordance.specs.Plain.{trimmed}
use Rattle.concordance.specs.Loops.Reading.{inside_of, left_of, counts, leaves_from, TextsFit}

abbrev plain_of : List Record → List Site → List Passage
plain_of sheet ts = map trimmed (filter (is_plain sheet) ts)

plain_append : (sheet : List Record) (xs ys : List Site) → plain_of sheet (xs ++ ys) ≡ plain_of sheet xs ++ plain_of sheet ys
plain_append sheet [] ys = refl
plain_append sheet (x ∷ xs) ys = by (is_plain sheet x) (plain_append sheet xs ys)
  where
    by : (b : Bool) → plain_of sheet (xs ++ ys) ≡ plain_of sheet xs ++ plain_of sheet ys
        → map trimmed (cond b (x ∷ filter (is_plain sheet) (xs ++ ys)) (filter (is_plain sheet) (xs ++ ys)))
        ≡ map trimmed (cond b (x ∷ filter (is_plain sheet) xs) (filter (is_plain sheet) xs)) ++ plain_of sheet ys
    by true e = ap (λ l. trimmed x ∷ l) e
    by false e = e

plain_cons : (sheet : List Record) (x : Site) (xs : List Site)
    → plain_of sheet (x ∷ xs) ≡ cond (is_plain sheet x) (trimmed x ∷ plain_of sheet xs) (plain_of sheet xs)
plain_cons sheet x xs = by (is_plain sheet x)
  where
    by : (b : Bool)
        → map trimmed (cond b (x ∷ filter (is_plain sheet) xs) (filter (is_plain sheet) xs))
        ≡ cond b (trimmed x ∷ plain_of sheet xs) (plain_of sheet xs)
    by true = refl
    by false = refl

-- the filter of the texts is the reading
pub sites_read : (sheet : List Record) (around : List Around) (b : Option MarkParts) (f : Forest)
    → plain_of sheet (sites_in around b f) ≡ leaves_from sheet (inside_of sheet around) b f
sites_read sheet around b nothing = refl
sites_read sheet around b (text s t f) =
    plain_cons sheet (record { start = s; bytes = t; around = around; before = b; is_last = is_nothing f }) (sites_in around None f)
    ∙ ap (λ l. cond (counts (inside_of sheet around)) (left_of (inside_of sheet around) b (is_nothing f) s t ∷ l) l)
    (sites_read sheet around None f)
sites_read sheet around b (leaf s m f) = sites_read sheet around (Some m) f
sites_read sheet around b (node k s x m ks c f) =
    let a : Around = record { kind = k; mark = m; is_closed = is_some c } in
    plain_append sheet (sites_in (a ∷ around) (Some m) ks) (sites_in around (node_end (mark_at_end (Some m) ks) c) f)
    ∙ (λ i. sites_read sheet (a ∷ around) (Some m) ks i ++ sites_read sheet around (node_end (mark_at_end (Some m) ks) c) f i)

-- ---- texts end where the tree does

fits_at : (n m : ℕ) (f : Forest) → Runs n f → n ≡ m → Runs m f
fits_at n m f r e = subst (λ k. Runs k f) e r

-- the bytes of a node and what follows
pub node_bytes : (k : StyleKind) (n : ℕ) (x : List ℕ) (m : MarkParts) (ks : Forest) (c : Option MarkParts) (f : Forest)
    → x ≡ span_bytes m ks c → bytes_of (node k n x m ks c f) ≡ x ++ bytes_of f
node_bytes k n x m ks c f e = bytes_then (node k n x m ks c nothing) f ∙ ap (λ z. z ++ bytes_of f) (span_is k n x m ks c ∙ sym e)

-- the texts of a tree end below 2^64 where the tree does
pub texts_fit : (n : ℕ) (f : Forest) → Runs n f → n + length (bytes_of f) < 2 ^ 64 → TextsFit f
texts_fit n nothing r h = tt
texts_fit n (text s t f) r h =
    let l = length-append t (bytes_of f) in let at = r.0 in (omega arith, texts_fit (n + length t) f r.1 (omega arith))
texts_fit n (leaf s m f) r h =
    let l = length-append (mark_bytes m) (bytes_of f) in texts_fit (n + length (mark_bytes m)) f r.1 (omega arith)
texts_fit n (node k s x m ks c f) r h =
    let whole = ap length (node_bytes k s x m ks c f r.1) ∙ length-append x (bytes_of f) in
    let inner = ap length r.1 ∙ length-append (mark_bytes m) (bytes_of ks ++ close_bytes c) in
    let kids = length-append (bytes_of ks) (close_bytes c) in
    (texts_fit (n + length (mark_bytes m)) ks r.2 (omega arith), texts_fit (n + length x) f r.3 (omega arith))
