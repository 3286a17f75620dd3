use Rattle.std.proofs.Common.{◌≡◌, ◌+◌, ◌-◌, ◌<◌, length, string_bytes, option_map, Some, refl, sym, ap, ◌∙◌, arith}
use Rattle.std.specs.Fmt.{decimal}
use Rattle.std.proofs.lemmas.List.{length-map}
use Rattle.std.proofs.lemmas.Option.{slice_get-map, slice_get_read}
use Rattle.conflict_settling.proofs.Joined.{read_number}
use Rattle.conflict_settling.proofs.answer.numbered.Goals as goal

pub returns : goal.returns
returns c =
    let texts = c.args.texts.now in
    let number = c.unwrap_or-number.result in
    let positive : 0 < number = omega (arith, c.if-number-eq0.false) in
    let one_before : number ≡ (number - 1) + 1 = omega (arith, positive) in
    record {
      before = number - 1;
      number = record {
        from_one = omega arith;
        within = omega (arith, positive, c.if-number-texts.false, length-map texts (λ t. string_bytes t));
        spelled = read_number c.args.word.now c.number_in.result number c.number_in.ensures.reads c.unwrap_or-number.ensures positive
            ∙ ap decimal one_before;
      };
      found = slice_get-map (λ t. string_bytes t) texts (number - 1)
          ∙ ap (option_map (λ t. string_bytes t)) (slice_get_read texts (length texts) (number - 1) c.index-texts-number.result refl
          (omega (arith, positive, c.if-number-texts.false)) c.index-texts-number.is)
          ∙ ap Some (sym c.as_str.ensures.value);
    }
