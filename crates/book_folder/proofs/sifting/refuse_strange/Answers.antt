use Rattle.book_folder.specs.Sifting.{any_place}
use Rattle.book_folder.proofs.PassedOver.{strange_answered}
use Rattle.book_folder.proofs.sifting.refuse_strange.Goals as goal

pub returns : goal.returns
returns c =
    strange_answered c.args.wishes.now.joined any_place c.args.replica.now c.in_ok-copy.copy c.receive_if_alike.new.replica
    c.args.bundle.now c.receive_if_alike.result c.in_ok-copy.ensures c.requires.strange c.requires.asked
    c.receive_if_alike.ensures
