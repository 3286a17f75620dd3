-- An index with chapters and registers put in, which keep no id.
use Rattle.std.proofs.Common.{◌≡◌, inl, inr, ℕ, ◌≤◌, true, List, [], ◌∷◌, ◌++◌, None}
use Rattle.std.proofs.Common.{length, take, drop, reverse, append_assoc, refl, sym, ap, subst, ◌∙◌}
use Rattle.std.proofs.lemmas.List.{take-append-drop, reverse-append, reverse-reverse}
use Rattle.usfm_ref.specs.Keys.{KeyParts, key_cmp, head_of}
use Rattle.usfm_ref.specs.Segments.{segment_cmp}
use Rattle.usfm_ref.specs.declared.segment.Segment.{Segment}
use Rattle.usfm_ref.proofs.Orders.{key_total, segment_total}
use Rattle.usfm_ref.proofs.Sorted.{place}
use Rattle.op_core.specs.Loops.Index.{home_of, chapter_of, registers_in}
use Rattle.op_core.specs.Loops.Index.{begins_above, IsOrderly, LaysKeys, Lays}
use Rattle.op_core.specs.declared.index.register.Register.{Register}
use Rattle.op_core.specs.declared.index.chapter.Chapter.{Chapter}
use Rattle.op_core.proofs.Indexed.Registers.{rise, insert_changes, lays_at}
use Rattle.op_core.proofs.Indexed.Chapters.{insert_chapter, lays_in}
use Rattle.op_core.proofs.Indexed.Between.{place_between, none_between, put_between}

-- what is moved from a list's end to the other's stays in the whole
pub moved_whole : {X : Type 0} (xs ys : List X) (n : ℕ) → take n xs ++ reverse (ys ++ reverse (drop n xs)) ≡ xs ++ reverse ys
moved_whole {X} xs ys n =
    ap (λ (zs : List X). take n xs ++ zs) (reverse-append ys (reverse (drop n xs))
    ∙ ap (λ (zs : List X). zs ++ reverse ys) (reverse-reverse (drop n xs)))
    ∙ sym (append_assoc (take n xs) (drop n xs) (reverse ys))
    ∙ ap (λ (zs : List X). zs ++ reverse ys) (take-append-drop n xs)

pub last_first : {X : Type 0} (xs ys : List X) (y : X) → ys ≡ xs ++ y ∷ [] → reverse ys ≡ y ∷ reverse xs
last_first xs ys y e = ap reverse e ∙ reverse-append xs (y ∷ [])

-- ---- registers of a chapter

pub keys_same : (head : KeyParts) (rs : List Register) → rise rs ≡ true → LaysKeys head rs rs
keys_same head rs h = record { rising = h; homes = λ k e. inl e; shown = λ k. refl; missing = λ k. refl }

pub keys_more : (head : KeyParts) (a b c : List Register) → LaysKeys head a b → LaysKeys head b c → LaysKeys head a c
keys_more head a b c h k = record {
  rising = k.rising;
  homes = λ q e. elim (k.homes q e) [ inl f ↦ h.homes q f | inr t ↦ inr t ];
  shown = λ q. k.shown q ∙ h.shown q;
  missing = λ q. k.missing q ∙ h.missing q;
}

pub register_laid : (head : KeyParts) (rs zs before : List Register) (n : ℕ) (y : Register) → n ≤ length rs →
    n ≡ place key_cmp key_total (λ (r : Register). r.key) y.key rs → begins_above key_cmp (λ r. r.key) y.key zs ≡ true →
    head_of y.key ≡ head → y.shown.items ≡ [] → y.missing.items ≡ [] →
    LaysKeys head before (take n rs ++ zs) → LaysKeys head before (take n rs ++ y ∷ zs)
register_laid head rs zs before n y l e b home sh mi h =
    let full = take n rs ++ zs in
    let at = place_between key_cmp key_total (λ (r : Register). r.key) y.key rs zs n e b in
    let none = none_between key_cmp key_total (λ (r : Register). r.key) y.key rs zs n e h.rising b in
    let changes = insert_changes y.key full n h.rising at y none refl in
    let p = lays_at y.key y full _ changes None none head home sh mi in
    subst (LaysKeys head before) (put_between rs zs n y l) (keys_more head before full _ h p)

-- what is from a register's place on was moved to the tail
pub keys_moved : (head : KeyParts) (before rs ts rs' ts' : List Register) (n : ℕ) → rs' ≡ take n rs → ts' ≡ ts ++ reverse (drop n rs) →
    LaysKeys head before (rs ++ reverse ts) → LaysKeys head before (rs' ++ reverse ts')
keys_moved head before rs ts rs' ts' n e f h = rw (e, f, moved_whole rs ts n) h

-- and then the register came there
pub key_more : (head : KeyParts) (before rs ts rs' ts' ts'' : List Register) (n : ℕ) (y : Register) → n ≤ length rs →
    n ≡ place key_cmp key_total (λ (r : Register). r.key) y.key rs → rs' ≡ take n rs → ts' ≡ ts ++ reverse (drop n rs) →
    begins_above key_cmp (λ r. r.key) y.key (reverse ts') ≡ true → head_of y.key ≡ head → y.shown.items ≡ [] → y.missing.items ≡ [] →
    ts'' ≡ ts' ++ y ∷ [] → LaysKeys head before (rs ++ reverse ts) →
    LaysKeys head before (rs' ++ reverse ts'')
key_more head before rs ts rs' ts' ts'' n y l at e f b home sh mi g h =
    rw (e, last_first ts' ts'' y g) (register_laid head rs (reverse ts') before n y l at b home sh mi
    (keys_moved head before rs ts (take n rs) ts' n refl f h))

-- ---- chapters

pub lays_same : (cs : List Chapter) → IsOrderly cs → Lays cs cs
lays_same cs h = record { orderly = h; shown = λ g. refl; missing = λ g. refl }

pub lays_more : (a b c : List Chapter) → Lays a b → Lays b c → Lays a c
lays_more a b c h k = record { orderly = k.orderly; shown = λ g. k.shown g ∙ h.shown g; missing = λ g. k.missing g ∙ h.missing g }

-- a chapter without registers
none_laid : (head : KeyParts) (a b : List Register) → a ≡ [] → b ≡ [] → LaysKeys head a b
none_laid head a b e f = rw (e, f) (keys_same head [] refl)

pub chapter_laid : (g : Segment) (cs zs before : List Chapter) (n : ℕ) (y : Chapter) → n ≤ length cs →
    n ≡ place segment_cmp segment_total home_of (chapter_of g) cs → begins_above segment_cmp home_of (chapter_of g) zs ≡ true →
    home_of y ≡ chapter_of g → y.registers.items ≡ [] → Lays before (take n cs ++ zs) → Lays before (take n cs ++ y ∷ zs)
chapter_laid g cs zs before n y l e b same none h =
    let full = take n cs ++ zs in
    let at = place_between segment_cmp segment_total home_of (chapter_of g) cs zs n e b in
    let gone = none_between segment_cmp segment_total home_of (chapter_of g) cs zs n e h.orderly.rising b in
    let changes = insert_chapter g full n h.orderly.rising at y gone same in
    subst (Lays before) (put_between cs zs n y l) (lays_more before full _ h
    (lays_in g y.registers.items full _ changes h.orderly (none_laid (head_of g.key) _ _ (ap registers_in gone) none)))

-- what is from a chapter's place on was moved to the tail
pub chapters_moved : (before cs ts cs' ts' : List Chapter) (n : ℕ) → cs' ≡ take n cs → ts' ≡ ts ++ reverse (drop n cs) →
    Lays before (cs ++ reverse ts) → Lays before (cs' ++ reverse ts')
chapters_moved before cs ts cs' ts' n e f h = rw (e, f, moved_whole cs ts n) h

-- and then the chapter came there
pub chapter_more : (g : Segment) (before cs ts cs' ts' ts'' : List Chapter) (n : ℕ) (y : Chapter) → n ≤ length cs →
    n ≡ place segment_cmp segment_total home_of (chapter_of g) cs → cs' ≡ take n cs → ts' ≡ ts ++ reverse (drop n cs) →
    begins_above segment_cmp home_of (chapter_of g) (reverse ts') ≡ true → home_of y ≡ chapter_of g → y.registers.items ≡ [] →
    ts'' ≡ ts' ++ y ∷ [] → Lays before (cs ++ reverse ts) → Lays before (cs' ++ reverse ts'')
chapter_more g before cs ts cs' ts' ts'' n y l at e f b same none more h =
    rw (e, last_first ts' ts'' y more)
    (chapter_laid g cs (reverse ts') before n y l at b same none (chapters_moved before cs ts (take n cs) ts' n refl f h))
