-- The texts of parts of some kinds.
use Rattle.std.proofs.Common.{◌≡◌, ℕ, Bool, true, false, List, [], ◌∷◌, ◌++◌, refl, ap, ◌∙◌, cond}
use Rattle.std.proofs.lemmas.List.{map_push}
use Rattle.word_diff.specs.declared.part.Kind.{Kind}
use Rattle.word_diff.specs.declared.part.Part.{Part}
use Rattle.word_diff.specs.Steps.{AddsEach, each}
use Rattle.word_diff.specs.Parts.{Span, span, spans, texts_of}

one_more : (b : Bool) (w : List ℕ) (ss ts : List (List ℕ)) → cond b (w ∷ (ss ++ ts)) (ss ++ ts) ≡ cond b (w ∷ ss) ss ++ ts
one_more true w ss ts = refl
one_more false w ss ts = refl

-- the texts of two lists of parts are those of each
pub texts_of-append : (p : Kind → Bool) (ss ts : List Span) → texts_of p (ss ++ ts) ≡ texts_of p ss ++ texts_of p ts
texts_of-append p [] ts = refl
texts_of-append p (a ∷ ss) ts =
    ap (λ (l : List (List ℕ)). cond (p a.kind) (a.bytes ∷ l) l) (texts_of-append p ss ts)
    ∙ one_more (p a.kind) a.bytes (texts_of p ss) (texts_of p ts)

-- one part more
pub texts_of-push : (p : Kind → Bool) (items : List Part) (part : Part)
    → texts_of p (spans (items ++ part ∷ [])) ≡ texts_of p (spans items) ++ cond (p part.kind) (part.text.now ∷ []) []
texts_of-push p items part = ap (texts_of p) (map_push span items part) ∙ texts_of-append p (spans items) (span part ∷ [])

-- no texts, on either side
pub nothing : (b : Bool) → [] ≡ cond {A = List (List ℕ)} b [] []
nothing true = refl
nothing false = refl

-- a text before others, on either side
pub one_text : (b : Bool) (w : List ℕ) (ws : List (List ℕ)) → cond b (w ∷ cond b ws []) (cond b ws []) ≡ cond b (w ∷ ws) []
one_text true w ws = refl
one_text false w ws = refl

texts_of-each : (p : Kind → Bool) (kind : Kind) (ws : List (List ℕ)) → texts_of p (each kind ws) ≡ cond (p kind) ws []
texts_of-each p kind [] = nothing (p kind)
texts_of-each p kind (w ∷ ws) =
    ap (λ (l : List (List ℕ)). cond (p kind) (w ∷ l) l) (texts_of-each p kind ws) ∙ one_text (p kind) w ws

-- the texts after words are added
pub each_texts : {before now : List Span} {kind : Kind} {ws : List (List ℕ)} → AddsEach before now kind ws → (p : Kind → Bool)
    → texts_of p now ≡ texts_of p before ++ cond (p kind) ws []
each_texts {before} {now} {kind} {ws} added p =
    ap (texts_of p) added.now_is ∙ texts_of-append p before (each kind ws)
    ∙ ap (λ (l : List (List ℕ)). texts_of p before ++ l) (texts_of-each p kind ws)
