use Rattle.std.proofs.Common.{sym, ap, subst, refl, ◌∙◌, ◌≡◌, arith, List}
use Rattle.std.specs.Ordering.{is_eq}
use Rattle.usfm_ref.specs.Keys.{KeyParts, head_of}
use Rattle.op_core.specs.Loops.Index.{registers_of, LaysKeys}
use Rattle.op_core.specs.declared.index.register.Register.{Register}
use Rattle.op_core.proofs.Indexed.Registers.{rise}
use Rattle.op_core.proofs.Indexed.Chapters.{were_there, set_chapter, lays_in}
use Rattle.op_core.proofs.index.lay.lay_beside.Goals as goal

pub lay_keys-requires : goal.lay_keys-requires
lay_keys-requires c =
    let there : registers_of c.args.segment.now c.args.chapters.now.items
    ≡ c.index_mut-chapter.result.now.registers.items = were_there c.args.segment.now c.args.chapters.now.items
    c.place_chapter-at.result c.requires.rising (rw (← c.deref.ensures.value) c.place_chapter-at.ensures.place)
    c.index_mut-chapter.result.now (omega arith) c.index_mut-chapter.ensures.value
    (sym (c.is_eq.ensures ∙ ap is_eq c.order.ensures) ∙ c.if-is_eq.true) in
    record { rising = ap rise (sym there) ∙ c.requires.registers c.args.segment.now }

pub returns-then-is_eq : goal.returns-then-is_eq
returns-then-is_eq c =
    let there : registers_of c.args.segment.now c.args.chapters.now.items
    ≡ c.index_mut-chapter.result.now.registers.items = were_there c.args.segment.now c.args.chapters.now.items
    c.place_chapter-at.result c.requires.rising (rw (← c.deref.ensures.value) c.place_chapter-at.ensures.place)
    c.index_mut-chapter.result.now (omega arith) c.index_mut-chapter.ensures.value
    (sym (c.is_eq.ensures ∙ ap is_eq c.order.ensures) ∙ c.if-is_eq.true) in
    let changes = set_chapter c.args.segment.now c.args.chapters.now.items
    c.place_chapter-at.result c.requires.rising (rw (← c.deref.ensures.value) c.place_chapter-at.ensures.place)
    c.index_mut-chapter.result.now (omega arith) c.index_mut-chapter.ensures.value
    (sym (c.is_eq.ensures ∙ ap is_eq c.order.ensures) ∙ c.if-is_eq.true) (record {
      book =
          c.index_mut-chapter.result.now.book;
      head = c.index_mut-chapter.result.now.head;
      registers = c.lay_keys.new.registers;
    }) refl in
    let laid : LaysKeys (head_of c.args.segment.now.key) c.index_mut-chapter.result.now.registers.items c.lay_keys.new.registers.items =
    subst (λ (k : KeyParts). LaysKeys k c.index_mut-chapter.result.now.registers.items c.lay_keys.new.registers.items)
    c.head.ensures c.lay_keys.ensures in
    lays_in c.args.segment.now c.lay_keys.new.registers.items c.args.chapters.now.items _ changes c.requires
    (subst (λ (rs : List Register). LaysKeys (head_of c.args.segment.now.key) rs c.lay_keys.new.registers.items) (sym there) laid)
