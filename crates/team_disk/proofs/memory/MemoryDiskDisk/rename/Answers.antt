use Rattle.std.proofs.Common.{◌≡◌, ℕ, List, Option, Some, None, inr, refl, sym, ◌∙◌, subst}
use Rattle.team_disk.specs.Disk.{at, as_read, MayMove}
use Rattle.team_disk.specs.Memory.{files_of}
use Rattle.team_disk.specs.declared.memory.Change.{Change}
use Rattle.team_disk.proofs.MemoryLemmas.{Renamed, renamed_push, elapses_push, stays_moved, moves}
use Rattle.team_disk.proofs.memory.MemoryDiskDisk.rename.Goals as goal

pub returns-in_err-bytes-clause-crash : goal.returns-in_err-bytes-clause-crash
returns-in_err-bytes-clause-crash c = stays_moved c.args.self.now.changes.items c.args.self.now.changes.items
    (at c.args.from_folder c.args.from.now) (at c.args.to_folder c.args.to.now)
    (files_of c.args.self.now.changes.items (at c.args.from_folder c.args.from.now)) refl

pub returns-in_err-place-clause-crash : goal.returns-in_err-place-clause-crash
returns-in_err-place-clause-crash c = stays_moved c.args.self.now.changes.items c.args.self.now.changes.items
    (at c.args.from_folder c.args.from.now) (at c.args.to_folder c.args.to.now)
    (files_of c.args.self.now.changes.items (at c.args.from_folder c.args.from.now)) refl

pub returns-in_err-stored-clause-crash : goal.returns-in_err-stored-clause-crash
returns-in_err-stored-clause-crash c = stays_moved c.args.self.now.changes.items c.args.self.now.changes.items
    (at c.args.from_folder c.args.from.now) (at c.args.to_folder c.args.to.now)
    (files_of c.args.self.now.changes.items (at c.args.from_folder c.args.from.now)) refl

pub returns-in_err-change-clause-crash : goal.returns-in_err-change-clause-crash
returns-in_err-change-clause-crash c = stays_moved c.args.self.now.changes.items c.change.new.self.changes.items
    (at c.args.from_folder c.args.from.now) (at c.args.to_folder c.args.to.now)
    (files_of c.args.self.now.changes.items (at c.args.from_folder c.args.from.now)) c.in_err-change.ensures.err

pub returns-clause-renamed : goal.returns-clause-renamed
returns-clause-renamed c =
    let change : Change = record { place = c.in_ok-place.place; bytes = c.in_ok-bytes.bytes; left = Some c.in_ok-stored.field-0 } in
    let from_place = at c.args.from_folder c.args.from.now in
    let to_place = at c.args.to_folder c.args.to.now in
    let old = c.args.self.now.changes.items in
    let pushed = renamed_push old change c.in_ok-stored.field-0 from_place to_place c.in_ok-place.ensures.place
    c.in_ok-stored.ensures.place refl c.requires.apart in
    let file = as_read c.in_ok-bytes.bytes in
    let is_file : file ≡ files_of old from_place = c.in_ok-bytes.ensures.bytes ∙
    (λ i. files_of (c.deref.ensures.value i) (at c.args.from_folder (c.as_bytes.ensures.value i))) in
    let renamed = subst (λ (l : List Change). Renamed from_place to_place file (files_of old) (files_of l))
    (sym c.in_ok-change.ensures.made) pushed in
    renamed.there ∙ is_file

pub returns-clause-gone : goal.returns-clause-gone
returns-clause-gone c =
    let change : Change = record { place = c.in_ok-place.place; bytes = c.in_ok-bytes.bytes; left = Some c.in_ok-stored.field-0 } in
    let from_place = at c.args.from_folder c.args.from.now in
    let to_place = at c.args.to_folder c.args.to.now in
    let old = c.args.self.now.changes.items in
    let pushed = renamed_push old change c.in_ok-stored.field-0 from_place to_place c.in_ok-place.ensures.place
    c.in_ok-stored.ensures.place refl c.requires.apart in
    let file = as_read c.in_ok-bytes.bytes in
    let is_file : file ≡ files_of old from_place = c.in_ok-bytes.ensures.bytes ∙
    (λ i. files_of (c.deref.ensures.value i) (at c.args.from_folder (c.as_bytes.ensures.value i))) in
    let renamed = subst (λ (l : List Change). Renamed from_place to_place file (files_of old) (files_of l))
    (sym c.in_ok-change.ensures.made) pushed in
    renamed.gone

pub returns-clause-seen : goal.returns-clause-seen
returns-clause-seen c =
    let change : Change = record { place = c.in_ok-place.place; bytes = c.in_ok-bytes.bytes; left = Some c.in_ok-stored.field-0 } in
    let from_place = at c.args.from_folder c.args.from.now in
    let to_place = at c.args.to_folder c.args.to.now in
    let old = c.args.self.now.changes.items in
    let pushed = renamed_push old change c.in_ok-stored.field-0 from_place to_place c.in_ok-place.ensures.place
    c.in_ok-stored.ensures.place refl c.requires.apart in
    let file = as_read c.in_ok-bytes.bytes in
    let is_file : file ≡ files_of old from_place = c.in_ok-bytes.ensures.bytes ∙
    (λ i. files_of (c.deref.ensures.value i) (at c.args.from_folder (c.as_bytes.ensures.value i))) in
    let renamed = subst (λ (l : List Change). Renamed from_place to_place file (files_of old) (files_of l))
    (sym c.in_ok-change.ensures.made) pushed in
    record { there = inr (renamed.there ∙ is_file); others = renamed.others }

pub returns-clause-crash : goal.returns-clause-crash
returns-clause-crash c =
    let change : Change = record { place = c.in_ok-place.place; bytes = c.in_ok-bytes.bytes; left = Some c.in_ok-stored.field-0 } in
    let from_place = at c.args.from_folder c.args.from.now in
    let to_place = at c.args.to_folder c.args.to.now in
    let old = c.args.self.now.changes.items in
    let pushed = renamed_push old change c.in_ok-stored.field-0 from_place to_place c.in_ok-place.ensures.place
    c.in_ok-stored.ensures.place refl c.requires.apart in
    let file = as_read c.in_ok-bytes.bytes in
    let is_file : file ≡ files_of old from_place = c.in_ok-bytes.ensures.bytes ∙
    (λ i. files_of (c.deref.ensures.value i) (at c.args.from_folder (c.as_bytes.ensures.value i))) in
    let renamed = subst (λ (l : List Change). Renamed from_place to_place file (files_of old) (files_of l))
    (sym c.in_ok-change.ensures.made) pushed in
    moves old c.change.new.self.changes.items from_place to_place (files_of old from_place)
    (subst (λ (f : Option (List ℕ)). Renamed from_place to_place f (files_of old) (files_of c.change.new.self.changes.items)) is_file
    renamed)

pub returns-clause-time : goal.returns-clause-time
returns-clause-time c =
    elapses_push c.args.self.now.changes.items c.change.new.self.changes.items
    (record { place = c.in_ok-place.place; bytes = c.in_ok-bytes.bytes; left = Some c.in_ok-stored.field-0 })
    c.in_ok-change.ensures.made
