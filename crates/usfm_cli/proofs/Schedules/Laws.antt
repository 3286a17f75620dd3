-- What holds of files after every schedule of commands.
use Rattle.std.proofs.Common.{Bor, ◌≡◌, ◌≢◌, ◌<◌, ◌^◌, ℕ, true, List, [], ◌++◌, length, codes}
use Rattle.std.proofs.Common.{Option, None, Some, Result, Ok, Err, IsTrue, refl, sym, ap, subst, ◌∙◌}
use Rattle.std.specs.Fmt.{decimal}
use Rattle.op_core.specs.Names.{is_name}
use Rattle.op_core.specs.Ids.{Id}
use Rattle.op_core.specs.Ops.{Operation, agree}
use Rattle.op_core.specs.Sets.{get, clash}
use Rattle.bundle_codec.specs.declared.fault.BundleFault.TheVariants.{Truncated}
use Rattle.bundle_codec.specs.declared.fault.WholeFault.{WholeFault}
use Rattle.bundle_codec.specs.Joining.{whole_at}
use Rattle.bundle_codec.specs.Spelling.{bundle}
use Rattle.bundle_codec.specs.Summaries.{summary_of, outside}
use Rattle.bundle_codec.proofs.Deltas.{outside_legal}
use Rattle.bundle_codec.proofs.Outside.{outside_set}
use Rattle.bundle_codec.proofs.Told.{summary_of_is}
use Rattle.bundle_codec.proofs.Wholes.{whole_reads}
use Rattle.replica_state.specs.Receives.{lacked}
use Rattle.replica_state.specs.States.{State}
use Rattle.replica_state.specs.Steps as steps
use Rattle.replica_state.specs.Steps.{step, with_ops}
use Rattle.replica_state.specs.World.{world, replica}
use Rattle.replica_state.specs.World.Schedules.{Holds, At, IsChain}
use Rattle.replica_state.proofs.ThinnedRuns.{gives_union}
use Rattle.replica_state.proofs.World.Exchanges.{relay_tells}
use Rattle.replica_state.proofs.World.Moments.{family_at, of_family, one_for_each, shown_in_the_end}
use Rattle.replica_state.proofs.World.Twins.{no_clash_here}
use Rattle.project_file.specs.Projects.{project, project_at}
use Rattle.usfm_cli.specs.Commands as commands
use Rattle.usfm_cli.specs.Commands.{done, done_if, line_of, reply_line}
use Rattle.usfm_cli.specs.Projects.{Written, written, executed}
use Rattle.usfm_cli.specs.ExecLaws.{output_of}
use Rattle.usfm_cli.specs.Schedules.{FileCommand, files, IsWritten, IsFrontOf, AreDone, IsFileOf, BringsUnion}
use Rattle.usfm_cli.specs.declared.command.Command.TheVariants.{Receive, Summary, Delta}
use Rattle.command_faults.specs.declared.fault.Fault.TheVariants.{Bundle}
use Rattle.usfm_cli.proofs.SummariesRead.{delta_answers}
use Rattle.usfm_cli.proofs.Schedules.Events.{events}
use Rattle.usfm_cli.proofs.Schedules.Every.{mirrored, is_replica, done_before, before}
use Rattle.usfm_cli.proofs.Schedules.Mirrors.{sets, state, loads, does, made_at, cut_at}

-- what a receive writes of a set that does not clash
received_is : (s : State) (ops : List Operation) → clash s.held ops ≡ None
    → written (done (step s (steps.Receive ops)))
    ≡ Ok (record {
      project = project (with_ops s ops);
      output = line_of (codes "new") (decimal (length (lacked s.held ops)));
    })
received_is s ops none = ap (λ (c : Option Id). written (done (steps.received s ops c))) none

module _ (past : List FileCommand) (d : AreDone past) where
  pub files_are_projects : (name : List ℕ) → IsTrue (is_name name) → length ((files past).file name) < 2 ^ 64
      → (s : State) × (project_at ((files past).file name) ≡ Ok s) × (s.name ≡ name)
  files_are_projects name named short =
      let r = mirrored past d in
      (replica (world (events past)) name, loads (files past) (events past) r.within r.mirrors name named short, refl)

  -- what a receive of a whole bundle makes
  receives_all : (name : List ℕ) → IsTrue (is_name name) → length ((files past).file name) < 2 ^ 64 → (bytes : Bor (List ℕ))
      → (ops : List Operation) → whole_at bytes.now ≡ Ok ops
      → executed ((files past).file name) (Receive bytes) ≡ written (done (step (replica (world (events past)) name) (steps.Receive ops)))
  receives_all name named short bytes ops reads =
      let r = mirrored past d in
      does (files past) (events past) r.within r.mirrors name named short (Receive bytes)
      ∙ ap (λ (x : Result (List Operation) WholeFault). written (commands.with_bundle (replica (world (events past)) name) x)) reads

  pub no_receive_is_refused : (name : List ℕ) (s : State) (bytes : Bor (List ℕ)) → IsFileOf (files past) name s
      → IsWritten (files past).bundles bytes.now
      → (made : Written) × (executed ((files past).file name) (Receive bytes) ≡ Ok made)
  no_receive_is_refused name s bytes f g =
      let r = mirrored past d in
      let x = made_at (files past) (events past) r.within r.mirrors bytes.now g.place g.is g.short in
      let own = replica (world (events past)) name in (
        record {
          project = project (with_ops own x.ops);
          output = line_of (codes "new") (decimal (length (lacked own.held x.ops)));
        },
        receives_all name f.named f.short bytes x.ops x.reads
            ∙ received_is own x.ops (no_clash_here (events past) name g.place x.ops x.made),
      )

  pub fronts_are_refused : (name : List ℕ) (s : State) (bytes : Bor (List ℕ)) → IsFileOf (files past) name s
      → (front : IsFrontOf (files past).bundles bytes.now) → front.more ≢ []
      → executed ((files past).file name) (Receive bytes) ≡ Err (Bundle Truncated)
  fronts_are_refused name s bytes f front some =
      let r = mirrored past d in
      does (files past) (events past) r.within r.mirrors name f.named f.short (Receive bytes)
      ∙ ap (λ (x : Result (List Operation) WholeFault). written (commands.with_bundle (replica (world (events past)) name) x))
      (cut_at (files past) (events past) r.within r.mirrors bytes.now front some)

  pub one_for_each_id : (a b : List ℕ) (s t : State) (id : Id) (x y : Operation) → IsFileOf (files past) a s → IsFileOf (files past) b t
      → get s.held id ≡ Some x → get t.held id ≡ Some y → agree x y ≡ true
  one_for_each_id a b s t id x y f g hx hy = one_for_each (events past) (At a) (At b) id x y
      (ap (λ (u : State). get u.held id) (sym (is_replica past a s d f)) ∙ hx)
      (ap (λ (u : State). get u.held id) (sym (is_replica past b t d g)) ∙ hy)

  pub shown_at_last : (name : List ℕ) (s : State) (id : Id) (o : Operation) → IsFileOf (files past) name s → get s.held id ≡ Some o
      → (chain : List Operation) × IsChain s.held o.segment o chain
  shown_at_last name s id o f g =
      let is = is_replica past name s d f in
      subst (λ (u : State). (chain : List Operation) × IsChain u.held o.segment o chain) (sym is)
      (shown_in_the_end (events past) name id o (ap (λ (u : State). get u.held id) (sym is) ∙ g))

  module _ (a b : List ℕ) (asked sent : Bor (List ℕ)) (named_a : IsTrue (is_name a)) (named_b : IsTrue (is_name b))
      (short_a : length ((files past).file a) < 2 ^ 64) (short_b : length ((files past).file b) < 2 ^ 64)
      (wrote : output_of (executed ((files past).file a) Summary) ≡ Ok asked.now) (fits : length asked.now < 2 ^ 64)
      (gave : output_of (executed ((files past).file b) (Delta asked)) ≡ Ok sent.now) (room : length sent.now < 2 ^ 64) where
    abbrev own : State
    own = replica (world (events past)) a

    abbrev other : State
    other = replica (world (events past)) b

    abbrev ops : List Operation
    ops = outside (summary_of (replica (world (events past)) a).held) (replica (world (events past)) b).held

    deltas_read : whole_at sent.now ≡ Ok ops
    deltas_read =
        let r = mirrored past d in
        let all = sets (files past) (events past) r.within r.mirrors in
        let load = loads (files past) (events past) r.within r.mirrors in
        let valid = state (files past) (events past) r.within r.mirrors in
        let gives : output_of (executed ((files past).file b) (Delta asked)) ≡ Ok (bundle ops) =
        delta_answers ((files past).file b) ((files past).file a) other own asked (load b named_b short_b) (load a named_a short_a)
        (valid a named_a short_a) wrote fits in
        let is : bundle ops ≡ sent.now = cc (sym gives ∙ gave) in
        whole_reads sent.now (record {
          ops = ops;
          set = outside_set (summary_of own.held) other.held (all.held b);
          legal = outside_legal other.held (summary_of own.held) (all.held b) (all.held_legal b);
          spelled = sym is;
          short = room;
        })

    pub brings : BringsUnion own other (executed ((files past).file a) (Receive sent))
    brings =
        let r = mirrored past d in
        let all = sets (files past) (events past) r.within r.mirrors in
        let g = gives_union (family_at (events past)) own other (summary_of own.held) (of_family (events past) a)
        (of_family (events past) b) (summary_of_is own.held (all.held a)) in
        let taken = step own (steps.Receive ops) in
        record {
          after = taken.after;
          answer = receives_all a named_a short_a sent ops deltas_read
              ∙ ap (λ (reply : steps.Reply). written (done_if taken.after (reply_line reply))) g.reply;
          named = keeps_name (clash own.held ops);
          skeletons = g.same.skeletons;
        }
      where
        keeps_name : (c : Option Id) → (steps.received own ops c).after.name ≡ a
        keeps_name None = refl
        keeps_name (Some id) = refl

  pub deltas_bring_union : (a b : List ℕ) (s t : State) (asked sent : Bor (List ℕ)) → IsFileOf (files past) a s → IsFileOf (files past) b t
      → output_of (executed ((files past).file a) Summary) ≡ Ok asked.now → length asked.now < 2 ^ 64
      → output_of (executed ((files past).file b) (Delta asked)) ≡ Ok sent.now → length sent.now < 2 ^ 64
      → BringsUnion s t (executed ((files past).file a) (Receive sent))
  deltas_bring_union a b s t asked sent f g wrote fits gave room =
      let made = brings a b asked sent f.named g.named f.short g.short wrote fits gave room in
      let one = sym (is_replica past a s d f) in
      let two = sym (is_replica past b t d g) in
      subst (λ (x : State × State). BringsUnion x.0 x.1 (executed ((files past).file a) (Receive sent))) (λ i. (one i, two i)) made

pub files_keep : (later past : List FileCommand) (name : List ℕ) (s t : State) (o : Operation) → AreDone (later ++ past)
    → IsFileOf (files past) name s → IsFileOf (files (later ++ past)) name t → Holds s.held o → Holds t.held o
files_keep later past name s t o d f g h =
    let one = is_replica past name s (done_before later past d) f in
    let two = is_replica (later ++ past) name t d g in
    subst (λ (u : State). Holds u.held o) (sym two)
    (relay_tells name name (events past) (events (later ++ past)) [] (refl, before past (later ++ past) (later, refl)) o
    (subst (λ (u : State). Holds u.held o) one h))
