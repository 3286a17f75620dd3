-- What comes in of a file that is UTF-8 is UTF-8: the file in another one's manner, and each of its pieces as a base has it.
use Rattle.std.proofs.Common.{◌≡◌, ◌<◌, ◌≤◌, ◌+◌, ◌==◌, ◌&&◌, ℕ, Bool, true, false, cond, List, [], ◌∷◌, ◌++◌, length, map, take, drop, IsUtf8, Option, Some, None, refl, sym, ap, subst, ◌∙◌, ⊎_elim, arith}
use Rattle.std.proofs.Common.{append_assoc}
use Rattle.std.specs.List.{AllByRecursion, flat_map}
use Rattle.std.specs.Str.{IsAscii}
use Rattle.std.proofs.Math.Utf8.{encode, encodes, scalar, scalars}
use Rattle.std.proofs.lemmas.Bool.{and_from, and_parts}
use Rattle.std.proofs.lemmas.Bool.Decides.{nat_tests}
use Rattle.std.proofs.lemmas.List.{append-nil, get_or_past, take-append-drop}
use Rattle.std.proofs.lemmas.Str.{IsUtf8-append, IsUtf8-from_ascii, IsUtf8-nil, encode_ascii, encode_same}
use Rattle.std.proofs.str.Laws as laws
use Rattle.usfm_ref.specs.Books.{same_bytes}
use Rattle.usfm_ref.specs.Keys.{KeyParts, book_head}
use Rattle.usfm_ref.specs.Segments.{segment}
use Rattle.usfm_ref.proofs.Orders.{same_bytes-is}
use Rattle.usfm_token.specs.Tokens.{BeginsMark, Lexeme, mark, words, joined, slice_of, tokens_of}
use Rattle.usfm_token.proofs.TokenLaws.{joined-tokens_of}
use Rattle.verse_cut.specs.Fits.{byte_order_mark}
use Rattle.verse_cut.specs.Keys.{key_below}
use Rattle.verse_cut.specs.Pieces.{PieceParts, pieces_joined, pieces_of}
use Rattle.verse_cut.specs.Reading.{Later, after_bom, cut_from, cut_of, goes_on, key_of, opens_at}
use Rattle.verse_cut.proofs.MarkLaws.{cut_is_read}
use Rattle.verse_cut.proofs.Quiet.{by_key}
use Rattle.op_core.specs.Export.{export}
use Rattle.op_core.specs.Ops.{Operation, own_text}
use Rattle.op_core.specs.Sets.{IsOpSet}
use Rattle.op_core.specs.Shown.{Pick, Line, Greatest, Empty, pick, picked_text}
use Rattle.op_core.proofs.Exports.Exported.{pick_is_text}
use Rattle.replica_state.proofs.World.PieceRanges.{parted}
use Rattle.book_folder.specs.Likes.{in_line_ends, like, line_ends, with_ends, without_cr}
use Rattle.book_folder.specs.Restored.{coming_ends, coming_pieces, front_of, in_manner_of, restored_by, restored_piece}
use Rattle.book_folder.specs.declared.likes.LineEnds.{LineEnds}
use Rattle.book_folder.specs.declared.likes.LineEnds.TheVariants.{Lf, CrLf, Mixed}

-- ---- bytes of characters

-- each byte is none of ASCII
abbrev AreHigh : List ℕ → Type 0
AreHigh bytes = AllByRecursion (λ b. 128 ≤ b) bytes

encoded_high : (c : ℕ) → 128 ≤ c → AreHigh (encode c)
encoded_high c m = ⊎_elim
    (λ a. subst AreHigh (sym (laws.two c m a)) (omega arith, (omega arith, tt)))
    (λ a. ⊎_elim
    (λ b. subst AreHigh (sym (laws.three c a b)) (omega arith, (omega arith, (omega arith, tt))))
    (λ b. subst AreHigh (sym (laws.four c b)) (omega arith, (omega arith, (omega arith, (omega arith, tt)))))
    (laws.order c 65536))
    (laws.order c 2048)

one_ascii : (b : ℕ) → b < 128 → IsAscii (b ∷ [])
one_ascii b lt i = ⊎_elim
    (λ (within : i < 1). let first : i ≡ 0 = omega arith in rw first lt)
    (λ past. let none = get_or_past (b ∷ []) i 0 past in omega arith)
    (laws.order i 1)

one_text : (b : ℕ) → b < 128 → IsUtf8 (b ∷ [])
one_text b lt = IsUtf8-from_ascii (b ∷ []) (one_ascii b lt)

other_byte : (b n : ℕ) → 128 ≤ b → n < 128 → (b == n) ≡ false
other_byte b n le lt = grind (arith, nat_tests)

-- a byte that is none of ASCII stays
high_stays : (b : ℕ) (rest : List ℕ) → 128 ≤ b → without_cr (b ∷ rest) ≡ b ∷ without_cr rest
unfolding without_cr
high_stays b [] le = refl
high_stays b (c ∷ rest) le =
    ap (λ x. cond (x && (c == 10)) (without_cr (c ∷ rest)) (b ∷ without_cr (c ∷ rest))) (other_byte b 13 le (omega arith))

all_stay : (front rest : List ℕ) → AreHigh front → without_cr (front ++ rest) ≡ front ++ without_cr rest
all_stay [] rest h = refl
all_stay (b ∷ front) rest h =
    high_stays b (front ++ rest) h.0 ∙ ap (λ (t : List ℕ). b ∷ t) (all_stay front rest h.1)

-- an ASCII byte stays, or is left out
low_cases : (P : List ℕ → Type 0) (b : ℕ) (rest : List ℕ) → P (without_cr rest) → P (b ∷ without_cr rest) → P (without_cr (b ∷ rest))
unfolding without_cr
low_cases P b [] out stays = stays
low_cases P b (c ∷ rest) out stays = by ((b == 13) && (c == 10))
  where
    by : (x : Bool) → P (cond x (without_cr (c ∷ rest)) (b ∷ without_cr (c ∷ rest)))
    by true = out
    by false = stays

-- characters without each CR before an LF are characters
encodes_without_cr : (cs : List ℕ) → scalars cs ≡ true → IsUtf8 (without_cr (encodes cs))
unfolding without_cr
encodes_without_cr [] h = IsUtf8-nil
encodes_without_cr (c ∷ cs) h =
    let p = and_parts (scalar c) (scalars cs) h in
    let rest = encodes_without_cr cs p.1 in
    ⊎_elim
    (λ (low : c < 128). subst (λ (t : List ℕ). IsUtf8 (without_cr (t ++ encodes cs))) (sym (encode_ascii c low))
    (low_cases IsUtf8 c (encodes cs) rest (IsUtf8-append (c ∷ []) (without_cr (encodes cs)) (one_text c low) rest)))
    (λ (high : 128 ≤ c). subst IsUtf8 (sym (all_stay (encode c) (encodes cs) (encoded_high c high)))
    (IsUtf8-append (encode c) (without_cr (encodes cs)) (c ∷ [], (and_from (scalar c) true p.0 refl, append-nil (encode c))) rest))
    (laws.order c 128)

module _ (end : List ℕ) (text : IsUtf8 end) where
  abbrev end_of : ℕ → List ℕ
  end_of b = cond (b == 10) end (b ∷ [])

  ends_stay : (front rest : List ℕ) → AreHigh front → flat_map end_of (front ++ rest) ≡ front ++ flat_map end_of rest
  ends_stay [] rest h = refl
  ends_stay (b ∷ front) rest h =
      ap (λ x. cond x end (b ∷ []) ++ flat_map end_of (front ++ rest)) (other_byte b 10 h.0 (omega arith))
      ∙ ap (λ (t : List ℕ). b ∷ t) (ends_stay front rest h.1)

  encodes_ended : (cs : List ℕ) → scalars cs ≡ true → IsUtf8 (flat_map end_of (encodes cs))
  encodes_ended [] h = IsUtf8-nil
  encodes_ended (c ∷ cs) h =
      let p = and_parts (scalar c) (scalars cs) h in
      let rest = encodes_ended cs p.1 in
      ⊎_elim
      (λ (low : c < 128). subst (λ (t : List ℕ). IsUtf8 (flat_map end_of (t ++ encodes cs))) (sym (encode_ascii c low))
      (IsUtf8-append (end_of c) (flat_map end_of (encodes cs)) (one (c == 10) c low) rest))
      (λ (high : 128 ≤ c). subst IsUtf8 (sym (ends_stay (encode c) (encodes cs) (encoded_high c high)))
      (IsUtf8-append (encode c) (flat_map end_of (encodes cs)) (c ∷ [], (and_from (scalar c) true p.0 refl, append-nil (encode c))) rest))
      (laws.order c 128)
    where
      one : (x : Bool) (b : ℕ) → b < 128 → IsUtf8 (cond x end (b ∷ []))
      one true b low = text
      one false b low = one_text b low

  ended_text : (t : List ℕ) → IsUtf8 t → IsUtf8 (with_ends end t)
  ended_text t u =
      let w : IsUtf8 (without_cr t) = subst (λ (x : List ℕ). IsUtf8 (without_cr x)) u.1.1 (encodes_without_cr u.0 u.1.0) in
      subst (λ (x : List ℕ). IsUtf8 (flat_map end_of x)) w.1.1 (encodes_ended w.0 w.1.0)

-- ---- a file in another one's manner

bom_text : IsUtf8 byte_order_mark
unfolding encode
bom_text = (65279 ∷ [], (refl, refl))

after_front : (rest : List ℕ) → IsUtf8 (byte_order_mark ++ rest) → IsUtf8 rest
unfolding encode
after_front rest u = by u.0 u.1.0 u.1.1
  where
    by : (cs : List ℕ) → scalars cs ≡ true → encodes cs ≡ byte_order_mark ++ rest → IsUtf8 rest
    by [] h e = cc e
    by (c ∷ cs) h e = (cs, ((and_parts (scalar c) (scalars cs) h).1, (encode_same c 65279 (encodes cs) rest e).1))

front_text : (was : List ℕ) → IsUtf8 (front_of was)
front_text was = by (same_bytes (take 3 was) byte_order_mark)
  where
    by : (b : Bool) → IsUtf8 (cond b byte_order_mark [])
    by true = bom_text
    by false = IsUtf8-nil

after_text : (t : List ℕ) → IsUtf8 t → IsUtf8 (after_bom t)
after_text t u = by (same_bytes (take 3 t) byte_order_mark) refl
  where
    by : (b : Bool) → same_bytes (take 3 t) byte_order_mark ≡ b → IsUtf8 (cond b (drop 3 t) t)
    by true e =
        after_front (drop 3 t)
        (subst IsUtf8
        (sym (ap (λ (x : List ℕ). x ++ drop 3 t) (sym (same_bytes-is (take 3 t) byte_order_mark e)) ∙ take-append-drop 3 t)) u)
    by false e = u

ends_text : (ends : LineEnds) (t : List ℕ) → IsUtf8 t → IsUtf8 (in_line_ends ends t)
ends_text Lf t u = ended_text (10 ∷ []) (one_text 10 (omega arith)) t u
ends_text CrLf t u =
    ended_text (13 ∷ 10 ∷ []) (IsUtf8-append (13 ∷ []) (10 ∷ []) (one_text 13 (omega arith)) (one_text 10 (omega arith))) t u
ends_text Mixed t u = u

-- a text in another one's manner is a text
pub manner_text : (was now : List ℕ) → IsUtf8 now → IsUtf8 (in_manner_of was now)
manner_text was now u =
    IsUtf8-append (front_of was) (in_line_ends (coming_ends (line_ends was)) (after_bom now)) (front_text was)
    (ends_text (coming_ends (line_ends was)) (after_bom now) (after_text now u))

-- ---- pieces

marks_both : (a b : List ℕ) → BeginsMark a → BeginsMark b → BeginsMark (a ++ b)
marks_both [] b h g = g
marks_both (x ∷ a) b h g = λ _. h (omega arith)

abbrev AreMarked : List PieceParts → Type 0
AreMarked ps = AllByRecursion (λ (p : PieceParts). BeginsMark p.text) ps

-- each piece is UTF-8
abbrev pub AreTexts : List PieceParts → Type 0
AreTexts ps = AllByRecursion (λ (p : PieceParts). IsUtf8 p.text) ps

joined_marked : (ps : List PieceParts) → AreMarked ps → BeginsMark (pieces_joined ps)
joined_marked [] h = λ z. absurd (omega (arith, z))
joined_marked (p ∷ ps) h = marks_both p.text (pieces_joined ps) h.0 (joined_marked ps h.1)

each_text : (ps : List PieceParts) → AreMarked ps → IsUtf8 (pieces_joined ps) → AreTexts ps
each_text [] h u = tt
each_text (p ∷ ps) h u =
    let two = parted p.text (pieces_joined ps) u (joined_marked ps h.1) in
    (two.0, each_text ps h.1 two.1)

-- what tokens give: all of them, one after the other, and later pieces that begin with marks
record Gives (ts : List Lexeme) (later : Later) : Type 0 where
  all : joined ts ≡ later.0 ++ pieces_joined later.1
  marked : AreMarked later.1

goes : (t : Lexeme) (ts : List Lexeme) (l : Later) → Gives ts l → Gives (t ∷ ts) (goes_on (slice_of t) l)
goes t ts l g = record {
  all = ap (λ (x : List ℕ). slice_of t ++ x) g.all ∙ sym (append_assoc (slice_of t) l.0 (pieces_joined l.1));
  marked = g.marked;
}

opens : (t : Lexeme) (ts : List Lexeme) (k : KeyParts) (at : ℕ) (l : Later) → BeginsMark (slice_of t ++ l.0) → Gives ts l
    → Gives (t ∷ ts) (opens_at k at (slice_of t) l)
opens t ts k at l m g = record {
  all = ap (λ (x : List ℕ). slice_of t ++ x) g.all ∙ sym (append_assoc (slice_of t) l.0 (pieces_joined l.1));
  marked = (m, g.marked);
}

gives : (g : KeyParts) (at : ℕ) (ts : List Lexeme) → Gives ts (cut_from g at ts)
gives g at [] = record { all = refl; marked = tt }
gives g at (t ∷ ts) =
    by (key_of g.chapter t ts) (begins t) (gives g (at + length (slice_of t)) ts) (λ k. gives k (at + length (slice_of t)) ts)
  where
    begins : (u : Lexeme) (k : KeyParts) → key_of g.chapter u ts ≡ Some k → (x : List ℕ) → BeginsMark (slice_of u ++ x)
    begins (mark m) k e x = λ _. refl
    begins (words w) k e x = cc e

    by : (r : Option KeyParts) → ((k : KeyParts) → r ≡ Some k → (x : List ℕ) → BeginsMark (slice_of t ++ x))
        → Gives ts (cut_from g (at + length (slice_of t)) ts)
        → ((k : KeyParts) → Gives ts (cut_from k (at + length (slice_of t)) ts))
        → Gives (t ∷ ts) (by_key g at (slice_of t) (at + length (slice_of t)) ts r)
    by None m same other = goes t ts (cut_from g (at + length (slice_of t)) ts) same
    by (Some k) m same other = turn (key_below g k)
      where
        turn : (b : Bool) → Gives (t ∷ ts) (cond b (opens_at k at (slice_of t) (cut_from k (at + length (slice_of t)) ts))
            (goes_on (slice_of t) (cut_from g (at + length (slice_of t)) ts)))
        turn true =
            let l = cut_from k (at + length (slice_of t)) ts in opens t ts k at l (m k refl l.0) (other k)
        turn false = goes t ts (cut_from g (at + length (slice_of t)) ts) same

-- each piece of a text is a text
pub cut_texts : (text : List ℕ) → IsUtf8 text → AreTexts (pieces_of text)
unfolding cut_of
cut_texts text u =
    let later = cut_from book_head 0 (tokens_of text) in
    let g = gives book_head 0 (tokens_of text) in
    let two = parted later.0 (pieces_joined later.1) (subst IsUtf8 (sym (joined-tokens_of text) ∙ g.all) u)
    (joined_marked later.1 g.marked) in
    subst AreTexts (cut_is_read text) (two.0, each_text later.1 g.marked two.1)

-- ---- pieces as a base has them

module _ (base : List Operation) (set : IsOpSet base) (book : List ℕ) where
  restored_text : (key : KeyParts) (piece : List ℕ) → IsUtf8 piece → IsUtf8 (restored_by (pick base (segment book key)) piece)
  restored_text key piece u = by (pick base (segment book key)) (pick_is_text base book key set)
    where
      choose : (b : Bool) (text : List ℕ) → IsUtf8 text → IsUtf8 (cond b text piece)
      choose true text v = v
      choose false text v = u

      by : (p : Pick) → IsUtf8 (picked_text p) → IsUtf8 (restored_by p piece)
      by (Greatest o) v = choose (like (own_text o) piece) (own_text o) v
      by (Line chapter) v = u
      by Empty v = u

  restored_texts : (ps : List PieceParts) → AreTexts ps → AreTexts (map (restored_piece base book) ps)
  restored_texts [] h = tt
  restored_texts (p ∷ ps) h = (restored_text p.key p.text h.0, restored_texts ps h.1)

  -- each piece that comes in of a file that is a text is a text
  pub coming_texts : (file : List ℕ) → IsUtf8 file → AreTexts (coming_pieces base book file)
  coming_texts file u =
      restored_texts (pieces_of (in_manner_of (export base book) file))
      (cut_texts (in_manner_of (export base book) file) (manner_text (export base book) file u))
