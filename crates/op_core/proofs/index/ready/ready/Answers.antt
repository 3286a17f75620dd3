use Rattle.std.proofs.Common.{arith, subst, refl, sym, IsTrue, List}
use Rattle.std.specs.Option.{is_some}
use Rattle.op_core.specs.Ids.{ids_rise}
use Rattle.op_core.specs.NextIds.{is_among}
use Rattle.op_core.specs.Loops.Index.{register_at, shown_in, missing_in, HasRoomIn, IsAtKey, IsSameBut, IsChangeOf}
use Rattle.op_core.specs.declared.index.register.Register.{Register}
use Rattle.op_core.proofs.Indexed.Registers.{rise}
use Rattle.op_core.proofs.Indexed.Chapters.{chapter_there, chapter_was, chapter_changes, now_in, is_at}
use Rattle.op_core.proofs.IdOrders.IdSets.{if_ok}
use Rattle.op_core.proofs.index.ready.ready.Goals as goal

pub index_mut-requires : goal.index_mut-requires
index_mut-requires c =
    let l = chapter_there c.args.segment.now c.args.chapters.now.items c.place_chapter-at.result c.requires.orderly.rising
    (rw (← c.deref.ensures.value) c.place_chapter-at.ensures.place)
    c.requires.there in
    omega (arith, l, c.args.chapters.now.ok.0)

pub ready_at_key-requires-clause-rising : goal.ready_at_key-requires-clause-rising
ready_at_key-requires-clause-rising c =
    let was = chapter_was c.args.segment.now c.args.chapters.now.items c.place_chapter-at.result c.requires.orderly.rising
    (rw (← c.deref.ensures.value) c.place_chapter-at.ensures.place)
    c.index_mut.result.now c.index_mut.ensures.value c.requires.there in
    subst (λ (rs : List Register). IsTrue (rise rs)) was (c.requires.orderly.registers c.args.segment.now)

pub ready_at_key-requires-clause-there : goal.ready_at_key-requires-clause-there
ready_at_key-requires-clause-there c =
    let was = chapter_was c.args.segment.now c.args.chapters.now.items c.place_chapter-at.result c.requires.orderly.rising
    (rw (← c.deref.ensures.value) c.place_chapter-at.ensures.place)
    c.index_mut.result.now c.index_mut.ensures.value c.requires.there in
    subst (λ (rs : List Register). IsTrue (is_some (register_at c.args.segment.now.key rs))) was c.requires.there

pub ready_at_key-requires-clause-shown : goal.ready_at_key-requires-clause-shown
ready_at_key-requires-clause-shown c =
    let was = chapter_was c.args.segment.now c.args.chapters.now.items c.place_chapter-at.result c.requires.orderly.rising
    (rw (← c.deref.ensures.value) c.place_chapter-at.ensures.place)
    c.index_mut.result.now c.index_mut.ensures.value c.requires.there in
    subst (λ (rs : List Register). IsTrue (ids_rise (shown_in (register_at c.args.segment.now.key rs)))) was c.requires.shown

pub ready_at_key-requires-clause-missing : goal.ready_at_key-requires-clause-missing
ready_at_key-requires-clause-missing c =
    let was = chapter_was c.args.segment.now c.args.chapters.now.items c.place_chapter-at.result c.requires.orderly.rising
    (rw (← c.deref.ensures.value) c.place_chapter-at.ensures.place)
    c.index_mut.result.now c.index_mut.ensures.value c.requires.there in
    subst (λ (rs : List Register). IsTrue (ids_rise (missing_in (register_at c.args.segment.now.key rs)))) was c.requires.missing

pub returns-clause-same : goal.returns-clause-same
returns-clause-same c =
    let x = c.index_mut.result.now in
    let was = chapter_was c.args.segment.now c.args.chapters.now.items c.place_chapter-at.result c.requires.orderly.rising
    (rw (← c.deref.ensures.value) c.place_chapter-at.ensures.place) x
    c.index_mut.ensures.value c.requires.there in
    let changes = chapter_changes c.args.segment.now c.args.chapters.now.items c.place_chapter-at.result
    c.requires.orderly.rising (rw (← c.deref.ensures.value) c.place_chapter-at.ensures.place) x
    c.index_mut.ensures.value c.requires.there (record { book = x.book; head = x.head; registers = c.ready_at_key.new.registers }) refl
    in
    let at = is_at IsSameBut c.args.segment.now c.ready_at_key.new.registers.items c.args.chapters.now.items _ changes
    c.requires.orderly (subst (λ (rs : List Register). IsAtKey IsSameBut c.args.segment.now.key rs c.ready_at_key.new.registers.items)
    (sym was) c.ready_at_key.ensures.same) in
    at

pub returns-clause-change : goal.returns-clause-change
returns-clause-change c =
    let x = c.index_mut.result.now in
    let was = chapter_was c.args.segment.now c.args.chapters.now.items c.place_chapter-at.result c.requires.orderly.rising
    (rw (← c.deref.ensures.value) c.place_chapter-at.ensures.place) x
    c.index_mut.ensures.value c.requires.there in
    if_ok c.ready_at_key.result
    (λ ch k. subst (λ (rs : List Register). IsChangeOf c.args.held.now c.args.segment.now
    (is_among c.args.aside.now.arrived.items) (is_among c.args.aside.now.named.items) (shown_in (register_at c.args.segment.now.key rs))
    (missing_in (register_at c.args.segment.now.key rs)) ch) (sym was) k) c.ready_at_key.ensures.change

pub returns-clause-room : goal.returns-clause-room
returns-clause-room c =
    let x = c.index_mut.result.now in
    let was = chapter_was c.args.segment.now c.args.chapters.now.items c.place_chapter-at.result c.requires.orderly.rising
    (rw (← c.deref.ensures.value) c.place_chapter-at.ensures.place) x
    c.index_mut.ensures.value c.requires.there in
    let changes = chapter_changes c.args.segment.now c.args.chapters.now.items c.place_chapter-at.result
    c.requires.orderly.rising (rw (← c.deref.ensures.value) c.place_chapter-at.ensures.place) x
    c.index_mut.ensures.value c.requires.there (record { book = x.book; head = x.head; registers = c.ready_at_key.new.registers }) refl
    in
    if_ok c.ready_at_key.result
    (λ ch k. subst (λ (rs : List Register). HasRoomIn ch (register_at c.args.segment.now.key rs))
    (sym (now_in c.args.segment.now c.ready_at_key.new.registers.items c.args.chapters.now.items _ changes)) k)
    c.ready_at_key.ensures.room
