use Rattle.std.proofs.Common.{rules, sym, ap, ◌∙◌, ◌++◌, List, map}
use Rattle.usfm_ref.specs.Keys.{KeyParts, key_cmp, head_of}
use Rattle.usfm_ref.specs.Rising.{rising}
use Rattle.usfm_ref.specs.contracts.key.KeyOrd.TheImpl as ord
use Rattle.usfm_ref.specs.contracts.key.KeyPartialEq.TheImpl as equal
use Rattle.op_core.specs.Lists.{keys_of}
use Rattle.replica_state.proofs.KeyLists.{sorted_once, piece_keys}
use Rattle.replica_state.proofs.replica.Replica.walked_keys.Goals as goal

pub returns : goal.returns
returns c =
    sorted_once ord.ghosts.cmp equal.ghosts.eq (λ a b. search rules)
    (λ a b. search rules) c.in_ok-keys.keys.items c.sort_unstable.new.self.items c.dedup.new.self.items
    c.sort_unstable.ensures.permutation c.sort_unstable.ensures.sorted c.dedup.ensures.filtered
    ∙ ap (rising key_cmp) (c.in_ok-keys.ensures ∙ ap (λ (ks : List KeyParts). map head_of (keys_of c.args.self.now.held c.args.book)
    ++ (keys_of c.args.self.now.held c.args.book ++ ks)) (sym (piece_keys c.args.pieces.now)))
