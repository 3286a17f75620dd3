use Rattle.std.proofs.Common.{arith, subst, refl, sym, IsTrue, List}
use Rattle.usfm_ref.specs.Segments.{segment}
use Rattle.op_core.specs.Ids.{ids_rise}
use Rattle.op_core.specs.Loops.Index.{register_at, register_of, shown_in, missing_in, HasRoomIn, IsAtKey, Takes}
use Rattle.op_core.specs.declared.index.register.Register.{Register}
use Rattle.op_core.proofs.Indexed.Registers.{rise}
use Rattle.op_core.proofs.Indexed.Chapters.{chapter_there, chapter_was, chapter_changes, is_at}
use Rattle.op_core.proofs.Indexed.There.{has_there}
use Rattle.op_core.proofs.index.settle.settle.Goals as goal

pub index_mut-requires : goal.index_mut-requires
index_mut-requires c =
    let l = chapter_there (segment c.args.change.book c.args.change.key) c.args.chapters.now.items c.place_chapter-at.result
    c.requires.orderly.rising (rw (← c.deref.ensures.value) c.place_chapter-at.ensures.place)
    (has_there c.args.change (register_of (segment c.args.change.book c.args.change.key) c.args.chapters.now.items) c.requires.room) in
    omega (arith, l, c.args.chapters.now.ok.0)

pub take_at_key-requires-clause-rising : goal.take_at_key-requires-clause-rising
take_at_key-requires-clause-rising c =
    let was = chapter_was (segment c.args.change.book c.args.change.key) c.args.chapters.now.items c.place_chapter-at.result
    c.requires.orderly.rising (rw (← c.deref.ensures.value) c.place_chapter-at.ensures.place)
    c.index_mut.result.now c.index_mut.ensures.value
    (has_there c.args.change (register_of (segment c.args.change.book c.args.change.key) c.args.chapters.now.items) c.requires.room) in
    subst (λ (rs : List Register). IsTrue (rise rs)) was (c.requires.orderly.registers (segment c.args.change.book c.args.change.key))

pub take_at_key-requires-clause-shown : goal.take_at_key-requires-clause-shown
take_at_key-requires-clause-shown c =
    let was = chapter_was (segment c.args.change.book c.args.change.key) c.args.chapters.now.items c.place_chapter-at.result
    c.requires.orderly.rising (rw (← c.deref.ensures.value) c.place_chapter-at.ensures.place)
    c.index_mut.result.now c.index_mut.ensures.value
    (has_there c.args.change (register_of (segment c.args.change.book c.args.change.key) c.args.chapters.now.items) c.requires.room) in
    subst (λ (rs : List Register). IsTrue (ids_rise (shown_in (register_at c.args.change.key rs)))) was c.requires.shown

pub take_at_key-requires-clause-missing : goal.take_at_key-requires-clause-missing
take_at_key-requires-clause-missing c =
    let was = chapter_was (segment c.args.change.book c.args.change.key) c.args.chapters.now.items c.place_chapter-at.result
    c.requires.orderly.rising (rw (← c.deref.ensures.value) c.place_chapter-at.ensures.place)
    c.index_mut.result.now c.index_mut.ensures.value
    (has_there c.args.change (register_of (segment c.args.change.book c.args.change.key) c.args.chapters.now.items) c.requires.room) in
    subst (λ (rs : List Register). IsTrue (ids_rise (missing_in (register_at c.args.change.key rs)))) was c.requires.missing

pub take_at_key-requires-clause-room : goal.take_at_key-requires-clause-room
take_at_key-requires-clause-room c =
    let was = chapter_was (segment c.args.change.book c.args.change.key) c.args.chapters.now.items c.place_chapter-at.result
    c.requires.orderly.rising (rw (← c.deref.ensures.value) c.place_chapter-at.ensures.place)
    c.index_mut.result.now c.index_mut.ensures.value
    (has_there c.args.change (register_of (segment c.args.change.book c.args.change.key) c.args.chapters.now.items) c.requires.room) in
    subst (λ (rs : List Register). HasRoomIn c.args.change (register_at c.args.change.key rs)) was c.requires.room

pub returns : goal.returns
returns c =
    let x = c.index_mut.result.now in
    let was = chapter_was (segment c.args.change.book c.args.change.key) c.args.chapters.now.items c.place_chapter-at.result
    c.requires.orderly.rising (rw (← c.deref.ensures.value) c.place_chapter-at.ensures.place) x
    c.index_mut.ensures.value (has_there c.args.change
    (register_of (segment c.args.change.book c.args.change.key) c.args.chapters.now.items) c.requires.room) in
    let changes = chapter_changes (segment c.args.change.book c.args.change.key) c.args.chapters.now.items c.place_chapter-at.result
    c.requires.orderly.rising (rw (← c.deref.ensures.value) c.place_chapter-at.ensures.place) x
    c.index_mut.ensures.value (has_there c.args.change
    (register_of (segment c.args.change.book c.args.change.key) c.args.chapters.now.items) c.requires.room)
    (record { book = x.book; head = x.head; registers = c.take_at_key.new.registers }) refl in
    is_at (Takes c.args.change) (segment c.args.change.book c.args.change.key) c.take_at_key.new.registers.items c.args.chapters.now.items _
    changes c.requires.orderly
    (subst (λ (rs : List Register). IsAtKey (Takes c.args.change) c.args.change.key rs c.take_at_key.new.registers.items)
    (sym was) c.take_at_key.ensures)
