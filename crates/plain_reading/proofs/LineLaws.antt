-- The lines of words have all of them, and each fits.
use Rattle.std.proofs.Common.{◌≡◌, ◌≤◌, ◌<◌, ◌⊎◌, inl, inr, ℕ, ◌+◌, ◌-◌, Bool, true, false, cond, List, [], ◌∷◌, ◌++◌, refl, sym, ap, ◌∙◌, append_assoc, arith}
use Rattle.std.proofs.lemmas.Bool.Decides.{nat_tests}
use Rattle.std.specs.List.{flat_map}
use Rattle.std.specs.Prelude.{nat_lt}
use Rattle.plain_reading.specs.Laws.{Line, spaced, line_text, spaced_columns, Fits, AllFit, AreLines}
use Rattle.plain_reading.specs.Lines.{columns, spaces, lines_after, lines_of}
use Rattle.plain_reading.specs.declared.setting.Setting.{Setting}

-- the words of lines
abbrev words_in : List Line → List (List ℕ)
words_in ls = flat_map (λ (l : Line). l.first ∷ l.others) ls

-- What follows a word in a line that has so much room: words that have no more columns, the line's end, and lines that fit.
record Rest (width room : ℕ) (ws : List (List ℕ)) (text : List ℕ) : Type 0 where
  others : List (List ℕ)
  lines : List Line
  written : text ≡ spaced others ++ 10 ∷ flat_map line_text lines
  have_all : others ++ words_in lines ≡ ws
  within : spaced_columns others ≤ room
  fit : AllFit width lines

-- a line whose first word leaves so much room fits, if the others have no more columns
fits : (width indent : ℕ) (w : List ℕ) (ws : List (List ℕ)) → spaced_columns ws ≤ width - indent - columns w
    → Fits width (record { indent = indent; first = w; others = ws })
fits width indent w [] h = inl refl
fits width indent w (v ∷ ws) h = inr (omega arith)

-- the text of a line, before what follows it
joins : (indent : ℕ) (w : List ℕ) (ws : List (List ℕ)) (after : List ℕ)
    → spaces indent ++ (w ++ (spaced ws ++ 10 ∷ after))
    ≡ line_text (record { indent = indent; first = w; others = ws }) ++ after
joins indent w ws after =
    ap (λ t. spaces indent ++ (w ++ t)) (sym (append_assoc (spaced ws) (10 ∷ []) after))
    ∙ ap (λ t. spaces indent ++ t) (sym (append_assoc w (spaced ws ++ 10 ∷ []) after))
    ∙ sym (append_assoc (spaces indent) (w ++ (spaced ws ++ 10 ∷ [])) after)

rest : (width later room : ℕ) (ws : List (List ℕ)) → Rest width room ws (lines_after width later room ws)
rest width later room [] = record { others = []; lines = []; written = refl; have_all = refl; within = omega arith; fit = tt }
rest width later room (w ∷ ws) = by (nat_lt (columns w) room) refl
    (rest width later (room - columns w - 1) ws) (rest width later (width - later - columns w) ws)
  where
    by : (b : Bool) → nat_lt (columns w) room ≡ b
        → Rest width (room - columns w - 1) ws (lines_after width later (room - columns w - 1) ws)
        → Rest width (width - later - columns w) ws (lines_after width later (width - later - columns w) ws)
        → Rest width room (w ∷ ws)
        (cond b (32 ∷ (w ++ lines_after width later (room - columns w - 1) ws))
        (10 ∷ (spaces later ++ (w ++ lines_after width later (width - later - columns w) ws))))
    by true is r s =
        let less : columns w < room = grind (arith, nat_tests) in
        record {
          others = w ∷ r.others;
          lines = r.lines;
          written = ap (λ t. 32 ∷ (w ++ t)) r.written
              ∙ ap (λ t. 32 ∷ t) (sym (append_assoc w (spaced r.others) (10 ∷ flat_map line_text r.lines)));
          have_all = ap (λ l. w ∷ l) r.have_all;
          within = omega (arith, r.within, less);
          fit = r.fit;
        }
    by false is r s =
        record {
          others = [];
          lines = record { indent = later; first = w; others = s.others } ∷ s.lines;
          written = ap (λ t. 10 ∷ (spaces later ++ (w ++ t))) s.written
              ∙ ap (λ t. 10 ∷ t) (joins later w s.others (flat_map line_text s.lines));
          have_all = ap (λ l. w ∷ l) s.have_all;
          within = omega arith;
          fit = (fits width later w s.others s.within, s.fit);
        }

pub lines_fit : (width : ℕ) (s : Setting) (ws : List (List ℕ)) → AreLines width ws (lines_of width s ws)
lines_fit width s [] = record { lines = []; written = refl; have_all = refl; fit = tt }
lines_fit width s (w ∷ ws) =
    let r = rest width s.later (width - s.first - columns w) ws in
    record {
      lines = record { indent = s.first; first = w; others = r.others } ∷ r.lines;
      written = ap (λ t. spaces s.first ++ (w ++ t)) r.written ∙ joins s.first w r.others (flat_map line_text r.lines);
      have_all = ap (λ l. w ∷ l) r.have_all;
      fit = (fits width s.first w r.others r.within, r.fit);
    }
