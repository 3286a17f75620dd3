use Rattle.std.proofs.Common.{◌≡◌, ◌∙◌, [], ◌∷◌, ◌++◌, length, ℕ, ◌+◌, ◌/◌, ◌%◌, List, arith, ap, sym, append_assoc, length-append}
use Rattle.std.specs.Fmt.{decimal}
use Rattle.std.proofs.lemmas.Fmt.{decimal_step, decimal_digit}
use Rattle.op_core.proofs.operations.line.ShortLine.+push_number.Goals as goal
use Rattle.op_core.proofs.operations.line.ShortLine.+push_number.Goals.{then-number-ge10, else-number-ge10}

-- all digits but the last
pub push_number-requires : goal.push_number-requires
push_number-requires t c =
    let n : ℕ = c.args.number in
    let last : List ℕ = (48 + n % 10) ∷ [] in (
      omega arith,
      omega (
        arith,
        c.requires,
        ap length (decimal_step n c.if-number-ge10.true (omega arith)),
        length-append (decimal (n / 10))
            last,
      ),
    )

-- the last digit
pub push-requires-clause-room : goal.push-requires-clause-room
push-requires-clause-room t c =
    let n : ℕ = c.args.number in
    let last : List ℕ = (48 + n % 10) ∷ [] in
    let line : List ℕ = c.args.self.now in
    elim c.if-number-ge10.branch [
      | then-number-ge10 w ↦
          omega (
            arith,
            c.requires,
            ap length w.self-is,
            w.push_number.ensures.len,
            ap length
                (decimal_step n w.if-number-ge10.true (omega arith)),
            length-append (decimal (n / 10)) last,
          )
      | else-number-ge10 w ↦
          omega (arith, c.requires, ap length w.self-is, ap length (decimal_digit n w.if-number-ge10.false))
    ]

pub returns-clause-appended : goal.returns-clause-appended
returns-clause-appended t c =
    let n : ℕ = c.args.number in
    let last : List ℕ = (48 + n % 10) ∷ [] in
    let line : List ℕ = c.args.self.now in
    elim c.if-number-ge10.branch [
      | then-number-ge10 w ↦
          c.push.ensures ∙ ap (λ (bytes : List ℕ). bytes ++ last) (w.self-is ∙ w.push_number.ensures.appended)
          ∙ append_assoc line (decimal (n / 10)) last
          ∙ ap (λ (bytes : List ℕ). line ++ bytes) (sym (decimal_step n w.if-number-ge10.true (omega arith)))
      | else-number-ge10 w ↦
          let digit : n % 10 ≡ n = omega (arith, w.if-number-ge10.false) in
          c.push.ensures ∙ ap (λ (bytes : List ℕ). bytes ++ last) w.self-is ∙ ap (λ (k : ℕ). line ++ (48 + k) ∷ []) digit
          ∙ ap (λ (bytes : List ℕ). line ++ bytes) (sym (decimal_digit n w.if-number-ge10.false))
    ]

pub returns-clause-len : goal.returns-clause-len
returns-clause-len t c =
    let n : ℕ = c.args.number in
    let last : List ℕ = (48 + n % 10) ∷ [] in
    let after : List ℕ = c.if-number-ge10.self in
    let pushed = ap length c.push.ensures ∙ length-append after last in
    elim c.if-number-ge10.branch [
      | then-number-ge10 w ↦
          omega (
            arith,
            pushed,
            ap length w.self-is,
            w.push_number.ensures.len,
            ap length
                (decimal_step n w.if-number-ge10.true (omega arith)),
            length-append (decimal (n / 10)) last,
          )
      | else-number-ge10 w ↦
          omega (arith, pushed, ap length w.self-is, ap length (decimal_digit n w.if-number-ge10.false))
    ]
