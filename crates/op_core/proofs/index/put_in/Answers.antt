use Rattle.std.proofs.Common.{sym, ap, subst, refl, ◌∙◌, ◌≡◌, arith, true, is_ok, List, None}
use Rattle.std.specs.Ordering.{is_eq}
use Rattle.std.specs.List.{insert}
use Rattle.std.proofs.lemmas.Bool.{cond-true}
use Rattle.usfm_ref.specs.Segments.{segment, segment_cmp}
use Rattle.usfm_ref.proofs.Orders.{segment_total}
use Rattle.usfm_ref.proofs.Sorted.{found, found_not, found_end, tied_back}
use Rattle.usfm_ref.proofs.Placed.{set_same}
use Rattle.op_core.specs.Loops.Index.{home_of, chapter_of, registers_in, registers_of, register_at, ChangesKey, Same}
use Rattle.op_core.specs.declared.index.register.Register.{Register}
use Rattle.op_core.specs.declared.index.chapter.Chapter.{Chapter}
use Rattle.op_core.proofs.Indexed.Registers.{rise, map_ok, map_err, on_err}
use Rattle.op_core.proofs.Indexed.Chapters.{were_there, set_chapter, insert_chapter, changes_in, same_in, same_chapters}
use Rattle.op_core.proofs.index.put_in.Goals.{then-at-len+else-is_eq, else-at-len}
use Rattle.op_core.proofs.index.put_in.Goals as goal

pub put_register-requires-clause-rising : goal.put_register-requires-clause-rising
put_register-requires-clause-rising c =
    let g = segment c.args.book c.args.register.key in
    let there : registers_of g c.args.chapters.now.items ≡ c.index_mut-chapter.result.now.registers.items = were_there g
    c.args.chapters.now.items c.place_chapter-at.result c.requires.orderly.rising
    (rw (← c.deref.ensures.value) c.place_chapter-at.ensures.place) c.index_mut-chapter.result.now (omega arith)
    c.index_mut-chapter.ensures.value (sym (c.is_eq.ensures ∙ ap is_eq c.order.ensures) ∙ c.if-is_eq.true) in
    ap rise (sym there) ∙ c.requires.orderly.registers g

pub put_register-requires-clause-absent : goal.put_register-requires-clause-absent
put_register-requires-clause-absent c =
    let g = segment c.args.book c.args.register.key in
    let there : registers_of g c.args.chapters.now.items ≡ c.index_mut-chapter.result.now.registers.items = were_there g
    c.args.chapters.now.items c.place_chapter-at.result c.requires.orderly.rising
    (rw (← c.deref.ensures.value) c.place_chapter-at.ensures.place) c.index_mut-chapter.result.now (omega arith)
    c.index_mut-chapter.ensures.value (sym (c.is_eq.ensures ∙ ap is_eq c.order.ensures) ∙ c.if-is_eq.true) in
    ap (register_at c.args.register.key) (sym there) ∙ c.requires.absent

pub returns-then-is_eq-clause-ok : goal.returns-then-is_eq-clause-ok
returns-then-is_eq-clause-ok c =
    let g = segment c.args.book c.args.register.key in
    let there : registers_of g c.args.chapters.now.items ≡ c.index_mut-chapter.result.now.registers.items = were_there g
    c.args.chapters.now.items c.place_chapter-at.result c.requires.orderly.rising
    (rw (← c.deref.ensures.value) c.place_chapter-at.ensures.place) c.index_mut-chapter.result.now (omega arith)
    c.index_mut-chapter.ensures.value (sym (c.is_eq.ensures ∙ ap is_eq c.order.ensures) ∙ c.if-is_eq.true) in
    let changes = set_chapter g c.args.chapters.now.items c.place_chapter-at.result c.requires.orderly.rising
    (rw (← c.deref.ensures.value) c.place_chapter-at.ensures.place) c.index_mut-chapter.result.now (omega arith)
    c.index_mut-chapter.ensures.value (sym (c.is_eq.ensures ∙ ap is_eq c.order.ensures) ∙ c.if-is_eq.true)
    (record {
      book = c.index_mut-chapter.result.now.book;
      head = c.index_mut-chapter.result.now.head;
      registers =
          c.put_register.new.registers;
    }) refl in
    map_ok c.put_register.result
    (λ p. changes_in g c.put_register.new.registers.items c.args.chapters.now.items _ changes c.args.register c.requires.orderly
    (subst (λ (rs : List Register). ChangesKey c.args.register.key c.args.register rs c.put_register.new.registers.items)
    (sym there) p)) c.put_register.ensures.ok

pub returns-then-is_eq-clause-err : goal.returns-then-is_eq-clause-err
returns-then-is_eq-clause-err c =
    let g = segment c.args.book c.args.register.key in
    let there : registers_of g c.args.chapters.now.items ≡ c.index_mut-chapter.result.now.registers.items = were_there g
    c.args.chapters.now.items c.place_chapter-at.result c.requires.orderly.rising
    (rw (← c.deref.ensures.value) c.place_chapter-at.ensures.place) c.index_mut-chapter.result.now (omega arith)
    c.index_mut-chapter.ensures.value (sym (c.is_eq.ensures ∙ ap is_eq c.order.ensures) ∙ c.if-is_eq.true) in
    let changes = set_chapter g c.args.chapters.now.items c.place_chapter-at.result c.requires.orderly.rising
    (rw (← c.deref.ensures.value) c.place_chapter-at.ensures.place) c.index_mut-chapter.result.now (omega arith)
    c.index_mut-chapter.ensures.value (sym (c.is_eq.ensures ∙ ap is_eq c.order.ensures) ∙ c.if-is_eq.true)
    (record {
      book = c.index_mut-chapter.result.now.book;
      head = c.index_mut-chapter.result.now.head;
      registers =
          c.put_register.new.registers;
    }) refl in
    map_err c.put_register.result
    (λ e. same_in g c.put_register.new.registers.items c.args.chapters.now.items _ changes c.requires.orderly (e ∙ sym there))
    c.put_register.ensures.err

pub returns-in_err-reserve-clause-err : goal.returns-in_err-reserve-clause-err
returns-in_err-reserve-clause-err c =
    let same : c.if-at-len.chapters.items ≡ c.args.chapters.now.items = elim c.if-at-len.branch [
      | then-at-len+else-is_eq w ↦ rw w.chapters-is
          (sym (set_same c.args.chapters.now.items c.place_chapter-at.result w.index_mut-chapter.result.now
          w.index_mut-chapter.ensures.value))
      | else-at-len w ↦ rw w.chapters-is refl
    ] in
    on_err c.from_residual.result
    (subst (λ (cs : List Chapter). Same c.args.chapters.now.items cs) (sym (c.reserve.ensures.items ∙ same))
    (same_chapters c.args.chapters.now.items c.requires.orderly))

pub put_register-requires-2-clause-absent : goal.put_register-requires-2-clause-absent
put_register-requires-2-clause-absent c = ap (register_at c.args.register.key) c.new-chapter.ensures.registers

pub returns-in_err-put_register-clause-err : goal.returns-in_err-put_register-clause-err
returns-in_err-put_register-clause-err c =
    let same : c.if-at-len.chapters.items ≡ c.args.chapters.now.items = elim c.if-at-len.branch [
      | then-at-len+else-is_eq w ↦ rw w.chapters-is
          (sym (set_same c.args.chapters.now.items c.place_chapter-at.result w.index_mut-chapter.result.now
          w.index_mut-chapter.ensures.value))
      | else-at-len w ↦ rw w.chapters-is refl
    ] in
    on_err c.from_residual-in_err-put_register.result
    (subst (λ (cs : List Chapter). Same c.args.chapters.now.items cs) (sym (c.reserve.ensures.items ∙ same))
    (same_chapters c.args.chapters.now.items c.requires.orderly))

pub returns-clause-ok : goal.returns-clause-ok
returns-clause-ok c =
    let same : c.if-at-len.chapters.items ≡ c.args.chapters.now.items = elim c.if-at-len.branch [
      | then-at-len+else-is_eq w ↦ rw w.chapters-is
          (sym (set_same c.args.chapters.now.items c.place_chapter-at.result w.index_mut-chapter.result.now
          w.index_mut-chapter.ensures.value))
      | else-at-len w ↦ rw w.chapters-is refl
    ] in
    let g = segment c.args.book c.args.register.key in
    let none : found segment_cmp segment_total home_of (chapter_of g) c.args.chapters.now.items ≡ None =
    elim c.if-at-len.branch [
      | then-at-len+else-is_eq w ↦ found_not segment_cmp segment_total home_of (chapter_of g)
          c.args.chapters.now.items c.place_chapter-at.result w.index_mut-chapter.result.now c.requires.orderly.rising
          (rw (← c.deref.ensures.value) c.place_chapter-at.ensures.place) w.index_mut-chapter.ensures.value
          (tied_back segment_cmp segment_total (home_of w.index_mut-chapter.result.now) (chapter_of g) _
          (sym (w.is_eq.ensures ∙ ap is_eq w.order.ensures) ∙ w.if-is_eq.false))
      | else-at-len w ↦ found_end segment_cmp segment_total home_of (chapter_of g)
          c.args.chapters.now.items c.place_chapter-at.result c.requires.orderly.rising
          (rw (← c.deref.ensures.value) c.place_chapter-at.ensures.place) (omega arith)
    ] in
    let y : Chapter = record {
      book = c.new-chapter.result.book;
      head = c.new-chapter.result.head;
      registers = c.put_register-2.new.registers;
    } in
    let went : is_ok c.insert.result ≡ true = ap is_ok c.unwrap.ensures in
    let items : c.insert.new.self.items ≡ insert c.args.chapters.now.items c.place_chapter-at.result y = c.insert.ensures.items
    ∙ cond-true _ _ _ went ∙ ap (λ (cs : List Chapter). insert cs c.place_chapter-at.result y) (c.in_ok-reserve.ensures.items ∙ same) in
    let changes = insert_chapter g c.args.chapters.now.items c.place_chapter-at.result c.requires.orderly.rising
    (rw (← c.deref.ensures.value) c.place_chapter-at.ensures.place) y none c.new-chapter.ensures.home in
    let empty : c.new-chapter.result.registers.items ≡ registers_of g c.args.chapters.now.items =
    c.new-chapter.ensures.registers ∙ sym (ap registers_in none) in
    rw items (changes_in g c.put_register-2.new.registers.items c.args.chapters.now.items _ changes c.args.register c.requires.orderly
    (subst (λ (rs : List Register). ChangesKey c.args.register.key c.args.register rs c.put_register-2.new.registers.items) empty
    c.in_ok-put_register.ensures.ok))
