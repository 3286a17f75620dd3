use Rattle.std.proofs.Common.{◌≡◌, ◌≤◌, ◌-◌, ◌∙◌, cond, ap, sym, subst, List, [], ◌∷◌, ◌++◌, length, map, reverse, arith}
use Rattle.usfm_token.specs.Tokens.{joined}
use Rattle.usfm_token.specs.View.{lexeme, rest_of}
use Rattle.usfm_tree.specs.Reading as reading
use Rattle.usfm_tree.specs.Loops.Stack.{resume}
use Rattle.usfm_tree.specs.SheetViews.{styles_of}
use Rattle.usfm_tree.specs.Loops.RoleViews.{role_view}
use Rattle.usfm_tree.specs.Views.{forest_of}
use Rattle.usfm_tree.specs.Loops.ReaderViews.{frames_of, sofar_of, frame_of, spans_of, span_of, Span, Adjoins}
use Rattle.usfm_tree.proofs.SpanLemmas.{adjoins_at}
use Rattle.usfm_token.proofs.Walk.{token_front}
use Rattle.usfm_tree.proofs.LeavesLemmas.{role_slice}
use Rattle.usfm_token.proofs.TokenLaws.{joined-tokens_of}
use Rattle.usfm_tree.specs.Loops.TakenViews.{left_of}
use Rattle.usfm_tree.proofs.ReaderLemmas.{left_front}
use Rattle.usfm_tree.proofs.ReadingLemmas.{whole_left}
use Rattle.usfm_tree.proofs.read.read_nodes.Goals as goal
use Rattle.usfm_tree.proofs.read.read_nodes.Goals.{In_ok-unwind, After-role_of-role}

pub loop-token-init : goal.loop-token-init
loop-token-init c =
    let S = styles_of c.args.sheet.now in
    let n = length c.args.source.now in
    record {
      adjoins =
          let F : List Span → Type 0 = λ ss. Adjoins ss (forest_of c.new-2.result.items) (rest_of c.new-tokens.result) in
          subst F (ap (λ l. reverse (map span_of l)) (sym c.new.ensures.items)) tt;
      within = omega (arith, ap length c.new-tokens.ensures);
      resumes =
          (λ i. resume S (forest_of (c.new-2.ensures.items i)) (reverse (map frame_of (c.new.ensures.items i)))
          (left_of n (c.new-tokens.ensures i)))
          ∙ whole_left S c.args.source.now;
    }

-- the token in front, and what is left after it
here : (c : In_ok-unwind)
    → (left_of (length c.args.source.now) (rest_of c.loop-token.tokens)
    ≡ record { start = length c.args.source.now - length (rest_of c.loop-token.tokens); token = lexeme c.in-Some.token } ∷ left_of
    (length c.args.source.now) (rest_of c.next.new.self)) × (length (rest_of c.next.new.self) ≤ length c.args.source.now)
here c = left_front (length c.args.source.now) (rest_of c.loop-token.tokens) (rest_of c.next.new.self)
    (lexeme c.in-Some.token) c.in-Some.ensures.steps c.loop-token.invariant.within

-- what the reading was before the ends, it is after them
unwound : (c : In_ok-unwind)
    → resume (styles_of c.args.sheet.now) (sofar_of c.unwind.new.self) (frames_of c.unwind.new.self)
    (cond c.in_ok-unwind.field-0 (left_of (length c.args.source.now) (rest_of c.next.new.self))
    (record { start = length c.args.source.now - length (rest_of c.loop-token.tokens); token = lexeme c.in-Some.token } ∷ left_of
    (length c.args.source.now) (rest_of c.next.new.self))) ≡ reading.tree_of (styles_of c.args.sheet.now) c.args.source.now
unwound c =
    sym (c.in_ok-unwind.ensures.resumes (styles_of c.args.sheet.now)
    (record { start = length c.args.source.now - length (rest_of c.loop-token.tokens); token = lexeme c.in-Some.token })
    (left_of (length c.args.source.now) (rest_of c.next.new.self)) (sym c.role_of-role.ensures.role))
    ∙ ap (resume (styles_of c.args.sheet.now) (sofar_of c.loop-token.reader) (frames_of c.loop-token.reader)) (sym (here c).0)
    ∙ c.loop-token.invariant.resumes

pub loop-token-preserved-then-branch : goal.loop-token-preserved-then-branch
loop-token-preserved-then-branch c =
    let d = (goal.at.loop-token-preserved-then-branch c).In_ok-unwind in
    record {
      adjoins =
          adjoins_at (spans_of c.unwind.new.self) (sofar_of c.unwind.new.self) c.rest.result.now (rest_of c.next.new.self)
          (subst (λ b. Adjoins (spans_of c.unwind.new.self) (sofar_of c.unwind.new.self)
          (cond b c.rest.result.now c.rest-at.result.now)) c.if-branch.true c.in_ok-unwind.ensures.adjoins) c.rest.ensures;
      within = (here d).1;
      resumes = ap (λ b. resume (styles_of c.args.sheet.now) (sofar_of c.unwind.new.self) (frames_of c.unwind.new.self)
          (cond b (left_of (length c.args.source.now) (rest_of c.next.new.self))
          (record { start = length c.args.source.now - length (rest_of c.loop-token.tokens); token = lexeme c.in-Some.token } ∷ left_of
          (length c.args.source.now) (rest_of c.next.new.self)))) (sym c.if-branch.true) ∙ unwound d;
    }

pub take-requires-clause-within : goal.take-requires-clause-within
take-requires-clause-within c =
    omega (arith, ap length c.rest-in-loop-token.ensures, (here (goal.at.take-requires-clause-within c).In_ok-unwind).1)

pub loop-token-preserved : goal.loop-token-preserved
loop-token-preserved c =
    let d = (goal.at.loop-token-preserved c).In_ok-unwind in
    let S = styles_of c.args.sheet.now in
    let n = length c.args.source.now in
    let t : reading.Placed = record { start = n - length (rest_of c.loop-token.tokens); token = lexeme c.in-Some.token } in
    let after = rest_of c.next.new.self in
    record {
      adjoins = adjoins_at (spans_of c.take.new.self) (sofar_of c.take.new.self) c.in_ok-after.after.now
          (rest_of c.new-tokens-in-loop-token.result) c.in_ok-after.ensures.adjoins (sym c.new-tokens-in-loop-token.ensures);
      within = omega (
        arith,
        ap length c.new-tokens-in-loop-token.ensures,
        c.in_ok-after.ensures.within,
        ap length
            c.rest-in-loop-token.ensures,
        (here d).1,
      );
      resumes =
          ap (λ l. resume S (sofar_of c.take.new.self) (frames_of c.take.new.self) (left_of n l)) c.new-tokens-in-loop-token.ensures
          ∙ sym (c.in_ok-after.ensures.enters S t (sym c.role_of-role.ensures.role) (ap (λ l. n - length l) (sym c.rest-at.ensures)))
          ∙ ap (λ l. resume S (sofar_of c.unwind.new.self) (frames_of c.unwind.new.self) (t ∷ left_of n l)) c.rest-in-loop-token.ensures
          ∙ ap (λ b. resume S (sofar_of c.unwind.new.self) (frames_of c.unwind.new.self)
          (cond b (left_of n after) (t ∷ left_of n after))) (sym c.if-branch.false)
          ∙ unwound d;
    }

-- the text from the token on
token_is : (c : After-role_of-role)
    → rest_of c.loop-token.tokens ≡ reading.role_bytes (role_view c.role_of-role.result) ++ rest_of c.next.new.self
token_is c =
    token_front (rest_of c.loop-token.tokens) (rest_of c.next.new.self) (lexeme c.in-Some.token) c.in-Some.ensures.steps
    ∙ ap (λ b. b ++ rest_of c.next.new.self)
    (sym (role_slice (styles_of c.args.sheet.now) (lexeme c.in-Some.token)) ∙ ap reading.role_bytes (sym c.role_of-role.ensures.role))

pub unwind-requires-clause-token : goal.unwind-requires-clause-token
unwind-requires-clause-token c =
    c.rest-at.ensures ∙ token_is (goal.at.unwind-requires-clause-token c).After-role_of-role
    ∙ ap (λ l. reading.role_bytes (role_view c.role_of-role.result) ++ l) (sym c.rest.ensures)

pub take-requires-clause-token : goal.take-requires-clause-token
take-requires-clause-token c =
    c.rest-at.ensures ∙ token_is (goal.at.take-requires-clause-token c).After-role_of-role
    ∙ ap (λ l. reading.role_bytes (role_view c.role_of-role.result) ++ l) (sym c.rest-in-loop-token.ensures)

pub finish-requires : goal.finish-requires
finish-requires c =
    adjoins_at (spans_of c.loop-token.reader) (sofar_of c.loop-token.reader) (rest_of c.loop-token.tokens) [] c.loop-token.invariant.adjoins
    (sym (joined-tokens_of (rest_of c.loop-token.tokens)) ∙ ap joined c.in-None.ensures.steps.0)

pub returns : goal.returns
returns c =
    let S = styles_of c.args.sheet.now in
    c.in_ok-kids.ensures S
    ∙ sym (ap (λ ts. resume S (sofar_of c.loop-token.reader) (frames_of c.loop-token.reader)
    (reading.placed (length c.args.source.now - length (rest_of c.loop-token.tokens)) ts)) c.in-None.ensures.steps.0)
    ∙ c.loop-token.invariant.resumes
