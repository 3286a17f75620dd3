use Rattle.std.proofs.Common.{◌≡◌, ◌∙◌, ◌∷◌, ap, sym, subst, length, arith}
use Rattle.sty_sheet.specs.Views.{record_of}
use Rattle.usfm_token.specs.View.{mark_parts}
use Rattle.usfm_tree.specs.Reading as reading
use Rattle.usfm_tree.specs.Loops.RoleViews.{role_view}
use Rattle.usfm_tree.specs.Loops.Stack.{Frame, opens_of, Enters}
use Rattle.usfm_tree.specs.Loops.ReaderViews.{frames_of, sofar_of}
use Rattle.usfm_tree.proofs.ReaderLemmas.{opens_of_frames, length_opens_in}
use Rattle.usfm_tree.proofs.ReadingLemmas.{enters_alone, enters_stray, enters_deep, enters_node}
use Rattle.usfm_tree.proofs.reader.Reader.enter.Goals as goal

pub returns-in_ok-enter_leaf-in-Alone-clause-enters : goal.returns-in_ok-enter_leaf-in-Alone-clause-enters
returns-in_ok-enter_leaf-in-Alone-clause-enters c =
    let is = ap role_view c.in-Alone.is in
    let k = c.in_ok-enter_leaf-in-Alone.ensures in
    let P : reading.Role → Type 0 = λ r. Enters r c.args.start (sofar_of c.args.self.now) (frames_of c.args.self.now)
    (sofar_of c.enter_leaf.new.self) (frames_of c.enter_leaf.new.self) in
    subst P (sym is) (enters_alone c.args.start (mark_parts c.in-Alone.mark) _ _ _ _ k.kids k.frames)

pub returns-in_ok-enter_leaf-in-Closes-clause-enters : goal.returns-in_ok-enter_leaf-in-Closes-clause-enters
returns-in_ok-enter_leaf-in-Closes-clause-enters c =
    let is = ap role_view c.in-Closes.is in
    let k = c.in_ok-enter_leaf-in-Closes.ensures in
    let P : reading.Role → Type 0 = λ r. Enters r c.args.start (sofar_of c.args.self.now) (frames_of c.args.self.now)
    (sofar_of c.enter_leaf-in-Closes.new.self) (frames_of c.enter_leaf-in-Closes.new.self) in
    subst P (sym is) (enters_stray c.args.start (mark_parts c.in-Closes.mark) _ _ _ _
    (ap (reading.ended (opens_of (frames_of c.args.self.now))) (sym is) ∙ c.requires.settled) k.kids k.frames)

pub returns-in_ok-begin-in-Opens-clause-enters : goal.returns-in_ok-begin-in-Opens-clause-enters
returns-in_ok-begin-in-Opens-clause-enters c =
    let is = ap role_view c.in-Opens.is in
    let k = c.in_ok-begin-in-Opens.ensures in
    let m = mark_parts c.in-Opens.mark in
    let frame =
    ap (λ x. (let one : Frame = record {
      open_node = record { kind = c.in-Opens.kind; nested = m.nested; closer = x };
      start = c.args.start;
      mark = m;
      before = sofar_of c.args.self.now;
    } in one) ∷ frames_of c.args.self.now) c.closer.ensures in
    let P : reading.Role → Type 0 = λ r. Enters r c.args.start (sofar_of c.args.self.now) (frames_of c.args.self.now)
    (sofar_of c.begin.new.self) (frames_of c.begin.new.self) in
    subst P (sym is) (enters_node c.args.start c.in-Opens.kind (record_of c.in-Opens.style.now).closer (mark_parts c.in-Opens.mark) _ _ _ _
    (ap (reading.ended (opens_of (frames_of c.args.self.now))) (sym is) ∙ c.requires.settled)
    (let size : length (opens_of (frames_of c.args.self.now))
    ≡ length c.args.self.now.open_nodes.items = ap length (opens_of_frames c.args.self.now.open_nodes.items)
    ∙ length_opens_in c.args.self.now.open_nodes.items in omega arith) k.kids (k.frames ∙ frame))

pub returns-in_ok-enter_leaf-in-Opens-clause-enters : goal.returns-in_ok-enter_leaf-in-Opens-clause-enters
returns-in_ok-enter_leaf-in-Opens-clause-enters c =
    let is = ap role_view c.in-Opens.is in
    let k = c.in_ok-enter_leaf-in-Opens.ensures in
    let P : reading.Role → Type 0 = λ r. Enters r c.args.start (sofar_of c.args.self.now) (frames_of c.args.self.now)
    (sofar_of c.enter_leaf-else-len-lt-DEEPEST.new.self) (frames_of c.enter_leaf-else-len-lt-DEEPEST.new.self) in
    subst P (sym is) (enters_deep c.args.start c.in-Opens.kind (record_of c.in-Opens.style.now).closer (mark_parts c.in-Opens.mark) _ _ _ _
    (ap (reading.ended (opens_of (frames_of c.args.self.now))) (sym is) ∙ c.requires.settled)
    (let size : length (opens_of (frames_of c.args.self.now))
    ≡ length c.args.self.now.open_nodes.items = ap length (opens_of_frames c.args.self.now.open_nodes.items)
    ∙ length_opens_in c.args.self.now.open_nodes.items in omega arith) k.kids k.frames)
