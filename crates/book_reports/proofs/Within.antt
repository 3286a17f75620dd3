-- Findings and hits are in their text.
use Rattle.std.proofs.Common.{◌≡◌, ℕ, zero, suc, ◌+◌, ◌<◌, List, [], ◌∷◌, ◌++◌, length, get_or, map, All, sym, ap, ◌∙◌, subst, arith, length-append}
use Rattle.std.proofs.lemmas.List.Concat.{flat_map-append}
use Rattle.std.proofs.lemmas.List.Elements.{All-nil, All-cons, All-head, All-tail}
use Rattle.sty_sheet.specs.Records.{Record}
use Rattle.usfm_token.specs.Tokens.{Lexeme, joined, slice_of, AreLexemes}
use Rattle.usfm_token.proofs.Walk.{each-tokens_of, first_not_empty, each_tail}
use Rattle.usfm_token.proofs.TokenLaws.{joined-tokens_of}
use Rattle.segment_check.specs.Findings.{findings}
use Rattle.segment_check.specs.Laws.{IsTokenStart}
use Rattle.segment_check.proofs.FindingLaws.{starts_are_tokens}
use Rattle.concordance.specs.Hits.{HitParts, passage_of}
use Rattle.concordance.specs.Passages.{StandApart}
use Rattle.concordance.specs.Views.{hit_view, hits_view}
use Rattle.concordance.specs.declared.hit.Hit as hits
use Rattle.book_reports.specs.Loops.Places.{HitFits}

-- ---- findings

lexemes_after : (before ts : List Lexeme) → AreLexemes (before ++ ts) → AreLexemes ts
lexemes_after [] ts h = h
lexemes_after (t ∷ before) ts h = lexemes_after before ts (each_tail t (before ++ ts) h)

token_within : (s : List ℕ) (at : ℕ) → IsTokenStart s at → at < length s
token_within s at t =
    let each = lexemes_after t.before (t.token ∷ t.after) (subst AreLexemes t.tokens_are (each-tokens_of s)) in
    let some = first_not_empty t.token t.after each in
    let parts : joined t.before ++ (slice_of t.token ++ joined t.after) ≡ s =
    sym (flat_map-append slice_of t.before (t.token ∷ t.after)) ∙ ap joined (sym t.tokens_are) ∙ joined-tokens_of s in
    let whole = ap length parts in
    let front = length-append (joined t.before) (slice_of t.token ++ joined t.after) in
    let back = length-append (slice_of t.token) (joined t.after) in
    let start = t.start_is in omega arith

-- findings start in their text
pub findings_within : (sheet : List Record) (s : List ℕ) → All (λ f. f.start < length s) (findings sheet s)
findings_within sheet s k d l = token_within s _ (starts_are_tokens sheet s k d l)

-- ---- hits

-- passages that stand apart in a text end in it
pub apart_fit : (s : List ℕ) (from : ℕ) (hs : List HitParts) → StandApart s from (map passage_of hs) → All (HitFits s) hs
apart_fit s from [] a = All-nil (HitFits s)
apart_fit s from (h ∷ hs) a = All-cons (HitFits s) h hs a.2 (apart_fit s (h.start + length h.text) hs a.3)

-- one of hits that end in a text ends in it
pub hit_fits : (s : List ℕ) (hs : List hits.Hit) (k : ℕ) (d : hits.Hit) → All (HitFits s) (hits_view hs) → k < length hs
    → HitFits s (hit_view (get_or hs k d))
hit_fits s [] k d h l = absurd (omega arith)
hit_fits s (x ∷ xs) zero d h l = All-head (HitFits s) (hit_view x) (hits_view xs) h
hit_fits s (x ∷ xs) (suc k) d h l = hit_fits s xs k d (All-tail (HitFits s) (hit_view x) (hits_view xs) h) (omega arith)
