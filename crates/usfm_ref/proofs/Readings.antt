-- The reading of numbers from the left gives what the grammar of numbers does, and nothing else.
use Rattle.std.proofs.Common.{◌≡◌, ℕ, ◌+◌, ◌-◌, ◌≤◌, nat_le, ◌==◌, Bool, true, false, not, ◌&&◌, cond, List, [], ◌∷◌, ◌++◌, length, take, drop, Option, Some, None, refl, ap, sym, ◌∙◌, arith, take-append-drop, length-append}
use Rattle.std.proofs.lemmas.Bool.{and_parts, and_from, eqb-true}
use Rattle.std.proofs.lemmas.Bool.Decides.{nat_tests}
use Rattle.std.proofs.lemmas.List.{take_at, drop_at}
use Rattle.std.proofs.lemmas.List.Folds.{length-prefix_len}
use Rattle.std.proofs.lemmas.Option.{option_and_then_some, cond_some, same_Some}
use Rattle.std.specs.List.{list_all, prefix_len}
use Rattle.std.specs.Option.{option_and_then, option_map, option_to_list, IfSome}
use Rattle.std.specs.Bool.{then_some}
use Rattle.std.specs.Char.{is_ascii_digit, is_ascii_lowercase, is_ascii_alphanumeric}
use Rattle.usfm_ref.specs.Keys.{is_letter}
use Rattle.usfm_ref.specs.Numbers.{is_blank, are_blanks, are_digits, number_of, ends_number, StartsWithNumber, StartsWithBridge, BridgesTo, ReadsChapter, ReadsVerse, blanks_at, number_at, ended, lettered, chapter_at, verse_at, bridge_at, chapter_in, bridged, verse_in, OneChapter, OneVerse, ChaptersAreRead, VersesAreRead}
use Rattle.usfm_ref.specs.declared.number.VerseMark.{VerseMark}
use Rattle.usfm_ref.proofs.Runs.{stops, prefix_len-run, list_all-run, stops-run}

-- ---- digits

-- digits before what begins with no digit
pub record IsRun (bytes : List ℕ) (number : ℕ) (rest : List ℕ) : Type 0 where
  pub digits : List ℕ
  pub bytes_are : bytes ≡ digits ++ rest
  pub are_digits : are_digits digits ≡ true
  pub number_is : number ≡ number_of digits
  pub stops : stops is_ascii_digit rest ≡ true

pub number_at-run : (digits rest : List ℕ) → are_digits digits ≡ true → stops is_ascii_digit rest ≡ true
    → number_at (digits ++ rest) ≡ Some (number_of digits, rest)
unfolding number_at
number_at-run digits rest h s =
    let parts = and_parts (nat_le 1 (length digits) && nat_le (length digits) 3) (list_all is_ascii_digit digits) h in
    let run : prefix_len is_ascii_digit (digits ++ rest) ≡ length digits = prefix_len-run is_ascii_digit digits rest parts.1 s in
    rw (run, parts.0, take_at digits rest (length digits) refl, drop_at digits rest (length digits) refl) refl

pub number_at-some : (bytes : List ℕ) (n : ℕ × List ℕ) → number_at bytes ≡ Some n → IsRun bytes n.0 n.1
unfolding number_at
number_at-some bytes n h =
    let k = prefix_len is_ascii_digit bytes in
    let found = cond_some (nat_le 1 k && nat_le k 3) (number_of (take k bytes), drop k bytes) n h in
    let long : length (take k bytes) ≡ k = length-prefix_len is_ascii_digit bytes in
    record {
      digits = take k bytes;
      bytes_are = sym (take-append-drop k bytes) ∙ ap (λ (p : ℕ × List ℕ). take k bytes ++ p.1) found.1;
      are_digits = and_from _ _ (rw long found.0) (list_all-run is_ascii_digit bytes);
      number_is = sym (ap (λ (p : ℕ × List ℕ). p.0) found.1);
      stops = rw (← ap (λ (p : ℕ × List ℕ). p.1) found.1) (stops-run is_ascii_digit bytes);
    }

-- ---- a letter, and the end

stops_at_end : (rest : List ℕ) → ends_number rest ≡ true → stops is_ascii_digit rest ≡ true
stops_at_end [] h = refl
stops_at_end (b ∷ rest) h = grind (arith, nat_tests)

stops_at_letter : (letter : Option ℕ) (rest : List ℕ) → is_letter letter ≡ true → ends_number rest ≡ true
    → stops is_ascii_digit (option_to_list letter ++ rest) ≡ true
stops_at_letter None rest l h = stops_at_end rest h
stops_at_letter (Some c) rest l h = grind (arith, nat_tests)

ended-of : {T : Type 0} (value : T) (rest : List ℕ) → ends_number rest ≡ true → ended value rest ≡ Some (value, rest)
ended-of value rest h = rw h refl

not_lower : (b : ℕ) → not (is_ascii_alphanumeric b) ≡ true → is_ascii_lowercase b ≡ false
not_lower b h = grind (arith, nat_tests)

lettered-of : (number : ℕ) (letter : Option ℕ) (rest : List ℕ) → is_letter letter ≡ true → ends_number rest ≡ true
    → lettered number (option_to_list letter ++ rest) ≡ Some ((number, letter), rest)
lettered-of number None [] l h = refl
lettered-of number None (b ∷ rest) l h = rw (h, not_lower b h) refl
lettered-of number (Some c) rest l h = rw (l, h) refl

-- what a letter or none after a number is
pub record IsLettered (number : ℕ) (bytes : List ℕ) (verse : ℕ × Option ℕ) (rest : List ℕ) : Type 0 where
  pub number_is : verse.0 ≡ number
  pub bytes_are : bytes ≡ option_to_list verse.1 ++ rest
  pub is_letter : is_letter verse.1 ≡ true
  pub ends : ends_number rest ≡ true

ended-some : {T : Type 0} (value : T) (rest : List ℕ) (r : T × List ℕ) → ended value rest ≡ Some r
    → (ends_number rest ≡ true) × (value ≡ r.0) × (rest ≡ r.1)
ended-some {T} value rest r h =
    let found = cond_some (ends_number rest) (value, rest) r h in
    (found.0, ap (λ (p : T × List ℕ). p.0) found.1, ap (λ (p : T × List ℕ). p.1) found.1)

-- a verse that ends after its letter or none
lettered_is : (number : ℕ) (letter : Option ℕ) (rest : List ℕ) (v : (ℕ × Option ℕ) × List ℕ) → is_letter letter ≡ true
    → ended (number, letter) rest ≡ Some v → IsLettered number (option_to_list letter ++ rest) v.0 v.1
lettered_is number letter rest v l h =
    let found = ended-some (number, letter) rest v h in
    record {
      number_is = sym (ap (λ (p : ℕ × Option ℕ). p.0) found.1);
      bytes_are = rw (← found.1, ← found.2) refl;
      is_letter = rw (← found.1) l;
      ends = rw (← found.2) found.0;
    }

lettered-some : (number : ℕ) (bytes : List ℕ) (v : (ℕ × Option ℕ) × List ℕ) → lettered number bytes ≡ Some v
    → IsLettered number bytes v.0 v.1
lettered-some number [] v h = lettered_is number None [] v refl h
lettered-some number (b ∷ rest) v h = by_letter (is_ascii_lowercase b) refl h
  where
    by_letter : (l : Bool) → is_ascii_lowercase b ≡ l → cond l (ended (number, Some b) rest) (ended (number, None) (b ∷ rest)) ≡ Some v
        → IsLettered number (b ∷ rest) v.0 v.1
    by_letter true e h = lettered_is number (Some b) rest v e h
    by_letter false e h = lettered_is number None (b ∷ rest) v refl h

-- ---- the numbers of chapters and verses

pub verse_at-of : (bytes : List ℕ) (v : ℕ × Option ℕ) (rest : List ℕ) → StartsWithNumber bytes v.0 v.1 rest
    → verse_at bytes ≡ Some (v, rest)
unfolding verse_at
verse_at-of bytes v rest h =
    let run = number_at-run h.digits (option_to_list v.1 ++ rest) h.are_digits (stops_at_letter v.1 rest h.is_letter h.ends) in
    rw (h.bytes_are, run, lettered-of (number_of h.digits) v.1 rest h.is_letter h.ends, ← h.number_is) refl

pub verse_at-some : (bytes : List ℕ) (v : (ℕ × Option ℕ) × List ℕ) → verse_at bytes ≡ Some v → StartsWithNumber bytes v.0.0 v.0.1 v.1
unfolding verse_at
verse_at-some bytes v h = option_and_then_some (λ (n : ℕ × List ℕ). lettered n.0 n.1) (number_at bytes) v h parts
  where
    parts : (n : ℕ × List ℕ) → number_at bytes ≡ Some n → lettered n.0 n.1 ≡ Some v → StartsWithNumber bytes v.0.0 v.0.1 v.1
    parts n e l =
        let run = number_at-some bytes n e in
        let letter = lettered-some n.0 n.1 v l in
        record {
          digits = run.digits;
          bytes_are = run.bytes_are ∙ ap (λ (r : List ℕ). run.digits ++ r) letter.bytes_are;
          are_digits = run.are_digits;
          number_is = letter.number_is ∙ run.number_is;
          is_letter = letter.is_letter;
          ends = letter.ends;
        }

pub chapter_at-of : (bytes : List ℕ) (n : ℕ) (rest : List ℕ) → StartsWithNumber bytes n None rest → chapter_at bytes ≡ Some (n, rest)
unfolding chapter_at
chapter_at-of bytes n rest h =
    let run = number_at-run h.digits rest h.are_digits (stops_at_end rest h.ends) in
    rw (h.bytes_are, run, h.ends, ← h.number_is) refl

pub chapter_at-some : (bytes : List ℕ) (r : ℕ × List ℕ) → chapter_at bytes ≡ Some r → StartsWithNumber bytes r.0 None r.1
unfolding chapter_at
chapter_at-some bytes r h = option_and_then_some (λ (n : ℕ × List ℕ). ended n.0 n.1) (number_at bytes) r h parts
  where
    parts : (n : ℕ × List ℕ) → number_at bytes ≡ Some n → ended n.0 n.1 ≡ Some r → StartsWithNumber bytes r.0 None r.1
    parts n e l =
        let run = number_at-some bytes n e in
        let ended = ended-some n.0 n.1 r l in
        record {
          digits = run.digits;
          bytes_are = run.bytes_are ∙ ap (λ (r : List ℕ). run.digits ++ r) ended.2;
          are_digits = run.are_digits;
          number_is = sym ended.1 ∙ run.number_is;
          is_letter = refl;
          ends = rw (← ended.2) ended.0;
        }

-- ---- bridges

pub bridge_at-of : (bytes : List ℕ) (last : ℕ × Option ℕ) (rest : List ℕ) → StartsWithBridge bytes last rest
    → bridge_at bytes ≡ Some (last, rest)
unfolding bridge_at
bridge_at-of bytes last rest h = rw h.bytes_are (verse_at-of h.after last rest h.last_is)

pub bridge_at-some : (bytes : List ℕ) (b : (ℕ × Option ℕ) × List ℕ) → bridge_at bytes ≡ Some b → StartsWithBridge bytes b.0 b.1
unfolding bridge_at
bridge_at-some [] b h = cc
bridge_at-some (x ∷ after) b h = by_hyphen (x == 45) refl h
  where
    by_hyphen : (e : Bool) → (x == 45) ≡ e → cond e (verse_at after) None ≡ Some b → StartsWithBridge (x ∷ after) b.0 b.1
    by_hyphen true e h = record { after = after; bytes_are = ap (λ y. y ∷ after) (eqb-true x 45 e); last_is = verse_at-some after b h }
    by_hyphen false e h = cc

-- ---- blanks

first_is_no_blank : (d : ℕ) → is_ascii_digit d ≡ true → is_blank d ≡ false
first_is_no_blank d h = grind (arith, nat_tests)

digits_are_no_blanks : (digits rest : List ℕ) → are_digits digits ≡ true → stops is_blank (digits ++ rest) ≡ true
digits_are_no_blanks [] rest h = cc
digits_are_no_blanks (d ∷ ds) rest h =
    let all = (and_parts (nat_le 1 (length (d ∷ ds)) && nat_le (length (d ∷ ds)) 3) (list_all is_ascii_digit (d ∷ ds)) h).1 in
    rw (first_is_no_blank d (and_parts (is_ascii_digit d) (list_all is_ascii_digit ds) all).0) refl

number_is_no_blank : (bytes : List ℕ) (n : ℕ) (letter : Option ℕ) (rest : List ℕ) → StartsWithNumber bytes n letter rest
    → stops is_blank bytes ≡ true
number_is_no_blank bytes n letter rest h = rw h.bytes_are (digits_are_no_blanks h.digits (option_to_list letter ++ rest) h.are_digits)

pub blanks_at-run : (blanks bytes : List ℕ) → are_blanks blanks ≡ true → stops is_blank bytes ≡ true
    → blanks_at (blanks ++ bytes) ≡ Some bytes
unfolding blanks_at
blanks_at-run blanks bytes h s =
    let parts = and_parts (nat_le 1 (length blanks)) (list_all is_blank blanks) h in
    let run : prefix_len is_blank (blanks ++ bytes) ≡ length blanks = prefix_len-run is_blank blanks bytes parts.1 s in
    rw (run, parts.0, drop_at blanks bytes (length blanks) refl) refl

-- what comes after blanks
pub record AreBlanks (text bytes : List ℕ) : Type 0 where
  pub blanks : List ℕ
  pub text_is : text ≡ blanks ++ bytes
  pub are_blanks : are_blanks blanks ≡ true

pub blanks_at-some : (text bytes : List ℕ) → blanks_at text ≡ Some bytes → AreBlanks text bytes
unfolding blanks_at
blanks_at-some text bytes h =
    let k = prefix_len is_blank text in
    let found = cond_some (nat_le 1 k) (drop k text) bytes h in
    let long : length (take k text) ≡ k = length-prefix_len is_blank text in
    record {
      blanks = take k text;
      text_is = sym (take-append-drop k text) ∙ ap (λ (r : List ℕ). take k text ++ r) found.1;
      are_blanks = and_from _ _ (rw long found.0) (list_all-run is_blank text);
    }

-- ---- the texts after marks

pub chapter_in-of : (text : List ℕ) (n : ℕ) → ReadsChapter text n → chapter_in text ≡ Some n
unfolding chapter_in
chapter_in-of text n h =
    let clear = number_is_no_blank h.bytes n None h.rest h.number_is in
    rw (h.text_is, blanks_at-run h.blanks h.bytes h.are_blanks clear, chapter_at-of h.bytes n h.rest h.number_is) refl

option_map_some : {A B P : Type 0} (f : A → B) (o : Option A) (y : B) → option_map f o ≡ Some y → ((x : A) → o ≡ Some x → f x ≡ y → P) → P
option_map_some f None y h then_ = cc
option_map_some f (Some x) y h then_ = then_ x refl (same_Some (f x) y h)

pub chapter_in-some : (text : List ℕ) (n : ℕ) → chapter_in text ≡ Some n → ReadsChapter text n
unfolding chapter_in
chapter_in-some text n h = option_map_some (λ (c : ℕ × List ℕ). c.0) (option_and_then chapter_at (blanks_at text)) n h
    (λ c e is. option_and_then_some chapter_at (blanks_at text) c e (parts c is))
  where
    parts : (c : ℕ × List ℕ) → c.0 ≡ n → (bytes : List ℕ) → blanks_at text ≡ Some bytes → chapter_at bytes ≡ Some c → ReadsChapter text n
    parts c is bytes b e =
        let front = blanks_at-some text bytes b in
        record {
          blanks = front.blanks;
          bytes = bytes;
          rest = c.1;
          text_is = front.text_is;
          are_blanks = front.are_blanks;
          number_is = rw (← is) (chapter_at-some bytes c e);
        }

abbrev mark_of : ℕ × Option ℕ → Option (ℕ × Option ℕ) → ℕ → VerseMark
mark_of verse last length = record { number = verse.0; letter = verse.1; last = last; length = length }

no_bridge : (after : List ℕ) → ((last : ℕ × Option ℕ) (rest : List ℕ) → StartsWithBridge after last rest → ⊥)
    → (b : Option ((ℕ × Option ℕ) × List ℕ)) → bridge_at after ≡ b → b ≡ None
no_bridge after none None e = refl
no_bridge after none (Some b) e = absurd (none b.0 b.1 (bridge_at-some after b e))

bridged-of : (text : List ℕ) (verse : ℕ × Option ℕ) (after : List ℕ) (last : Option (ℕ × Option ℕ)) (rest : List ℕ) (n : ℕ)
    → BridgesTo after last rest → n + length rest ≡ length text → bridged text verse after (bridge_at after) ≡ mark_of verse last n
bridged-of text verse after None rest n h long =
    let whole : length text - length after ≡ n = omega (arith, ap length h.0) in
    rw (no_bridge after h.1 (bridge_at after) refl, whole) refl
bridged-of text verse after (Some last) rest n h long =
    let part : length text - length rest ≡ n = omega arith in
    rw (bridge_at-of after last rest h, part) refl

pub verse_in-of : (text : List ℕ) (m : VerseMark) → ReadsVerse text m → verse_in text ≡ Some m
unfolding verse_in
verse_in-of text m h =
    let clear = number_is_no_blank h.bytes m.number m.letter h.after h.number_is in
    let front : blanks_at text ≡ Some h.bytes = rw h.text_is (blanks_at-run h.blanks h.bytes h.are_blanks clear) in
    rw (
      front,
      verse_at-of h.bytes (m.number, m.letter) h.after h.number_is,
      bridged-of text (m.number, m.letter) h.after m.last h.rest m.length h.last_is h.length_is,
    ) refl

-- a mark whose blanks and number were read
starts : (text bytes after : List ℕ) (verse : ℕ × Option ℕ) → AreBlanks text bytes → StartsWithNumber bytes verse.0 verse.1 after
    → length after ≤ length text
starts text bytes after verse front number =
    let parts = length-append number.digits (option_to_list verse.1 ++ after) in
    let letter = length-append (option_to_list verse.1) after in
    omega (arith, ap length front.text_is, length-append front.blanks bytes, ap length number.bytes_are, parts, letter)

bridged_is : (text bytes after : List ℕ) (verse : ℕ × Option ℕ) → AreBlanks text bytes → StartsWithNumber bytes verse.0 verse.1 after
    → (b : Option ((ℕ × Option ℕ) × List ℕ)) → bridge_at after ≡ b → ReadsVerse text (bridged text verse after b)
bridged_is text bytes after verse front number None e =
    let within : length after ≤ length text = starts text bytes after verse front number in
    record {
      blanks = front.blanks;
      bytes = bytes;
      after = after;
      rest = after;
      text_is = front.text_is;
      are_blanks = front.are_blanks;
      number_is = number;
      last_is = (refl, λ last left bridge. let found = bridge_at-of after last left bridge in cc);
      length_is = omega arith;
    }
bridged_is text bytes after verse front number (Some b) e =
    let bridge = bridge_at-some after b e in
    let within : length after ≤ length text = starts text bytes after verse front number in
    let last = bridge.last_is in
    record {
      blanks = front.blanks;
      bytes = bytes;
      after = after;
      rest = b.1;
      text_is = front.text_is;
      are_blanks = front.are_blanks;
      number_is = number;
      last_is = bridge;
      length_is = omega (
        arith,
        ap length bridge.bytes_are,
        ap length last.bytes_are,
        length-append last.digits (option_to_list b.0.1 ++ b.1),
        length-append (option_to_list b.0.1) b.1,
      );
    }

-- a verse that is computed is read
pub verse_in-some : (text : List ℕ) (m : VerseMark) → verse_in text ≡ Some m → ReadsVerse text m
unfolding verse_in
verse_in-some text m h = option_map_some (λ (v : (ℕ × Option ℕ) × List ℕ). bridged text v.0 v.1 (bridge_at v.1))
    (option_and_then verse_at (blanks_at text)) m h (λ v e is. option_and_then_some verse_at (blanks_at text) v e (parts v is))
  where
    parts : (v : (ℕ × Option ℕ) × List ℕ) → bridged text v.0 v.1 (bridge_at v.1) ≡ m → (bytes : List ℕ) → blanks_at text ≡ Some bytes
        → verse_at bytes ≡ Some v → ReadsVerse text m
    parts v is bytes b e =
        rw (← is) (bridged_is text bytes v.1 v.0 (blanks_at-some text bytes b) (verse_at-some bytes v e) (bridge_at v.1) refl)

-- ---- the laws

pub chapters_are_read : ChaptersAreRead
chapters_are_read text n = (chapter_in-some text n, chapter_in-of text n)

pub verses_are_read : VersesAreRead
verses_are_read text m = (verse_in-some text m, verse_in-of text m)

pub one_chapter : OneChapter
one_chapter text a b h k = same_Some a b (sym (chapter_in-of text a h) ∙ chapter_in-of text b k)

pub one_verse : OneVerse
one_verse text a b h k = same_Some a b (sym (verse_in-of text a h) ∙ verse_in-of text b k)

-- ---- what the steps of a call read

-- what a reading by the definition says by the grammar
pub chapter_reads : (text : List ℕ) (r : Option ℕ) → r ≡ chapter_in text → IfSome r (ReadsChapter text)
chapter_reads text None e = tt
chapter_reads text (Some n) e = chapter_in-some text n (sym e)

pub verse_reads : (text : List ℕ) (r : Option VerseMark) → r ≡ verse_in text → IfSome r (ReadsVerse text)
verse_reads text None e = tt
verse_reads text (Some m) e = verse_in-some text m (sym e)

pub chapter_in-no_blanks : (text : List ℕ) → blanks_at text ≡ None → chapter_in text ≡ None
unfolding chapter_in
chapter_in-no_blanks text b = rw b refl

pub chapter_in-no_number : (text bytes : List ℕ) → blanks_at text ≡ Some bytes → number_at bytes ≡ None → chapter_in text ≡ None
unfolding chapter_in chapter_at
chapter_in-no_number text bytes b n = rw (b, n) refl

pub chapter_in-number : (text bytes : List ℕ) (n : ℕ) (rest : List ℕ) → blanks_at text ≡ Some bytes → number_at bytes ≡ Some (n, rest)
    → chapter_in text ≡ then_some (ends_number rest) n
unfolding chapter_in chapter_at
chapter_in-number text bytes n rest b e = rw (b, e) (by_end (ends_number rest))
  where
    by_end : (d : Bool) → option_map (λ (c : ℕ × List ℕ). c.0) (cond d (Some (n, rest)) None) ≡ then_some d n
    by_end true = refl
    by_end false = refl

pub verse_in-no_blanks : (text : List ℕ) → blanks_at text ≡ None → verse_in text ≡ None
unfolding verse_in
verse_in-no_blanks text b = rw b refl

pub verse_in-no_verse : (text bytes : List ℕ) → blanks_at text ≡ Some bytes → verse_at bytes ≡ None → verse_in text ≡ None
unfolding verse_in
verse_in-no_verse text bytes b v = rw (b, v) refl

pub verse_in-verse : (text bytes : List ℕ) (verse : ℕ × Option ℕ) (after : List ℕ) → blanks_at text ≡ Some bytes
    → verse_at bytes ≡ Some (verse, after) → verse_in text ≡ Some (bridged text verse after (bridge_at after))
unfolding verse_in
verse_in-verse text bytes verse after b v = rw (b, v) refl

-- the bytes after a verse and its bridge are a part of the text
pub within_text : (text bytes : List ℕ) (verse : ℕ × Option ℕ) (after : List ℕ) → blanks_at text ≡ Some bytes
    → verse_at bytes ≡ Some (verse, after) → length after ≤ length text
within_text text bytes verse after b v =
    starts text bytes after verse (blanks_at-some text bytes b) (verse_at-some bytes (verse, after) v)

pub within_bridge : (bytes : List ℕ) (last : ℕ × Option ℕ) (rest : List ℕ) → bridge_at bytes ≡ Some (last, rest)
    → length rest ≤ length bytes
within_bridge bytes last rest b =
    let bridge = bridge_at-some bytes (last, rest) b in
    let number = bridge.last_is in
    omega (
      arith,
      ap length bridge.bytes_are,
      ap length number.bytes_are,
      length-append number.digits (option_to_list last.1 ++ rest),
      length-append (option_to_list last.1) rest,
    )
