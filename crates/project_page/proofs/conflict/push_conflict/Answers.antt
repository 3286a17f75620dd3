use Rattle.std.proofs.Common.{◌++◌, Bor, List, ℕ, map, string_bytes, ap, ◌∙◌}
use Rattle.std.proofs.lemmas.Result.{on_ok_weaker}
use Rattle.std.specs.List.{flat_map}
use Rattle.usfm_ref.specs.References.{ref_text}
use Rattle.op_core.specs.Ops.{Operation}
use Rattle.op_core.specs.Shown.{picked}
use Rattle.conflict_settling.specs.Entries.{views}
use Rattle.conflict_settling.specs.declared.sides.Entry.{Entry}
use Rattle.project_page.specs.Pages as pages
use Rattle.project_page.specs.Parts.{conflict_view}
use Rattle.plain_line.specs.declared.text.CarriageReturn.TheVariants.{LeftOut}
use Rattle.project_page.specs.Said.{said}
use Rattle.project_page.specs.declared.markup.TheConstants as html
use Rattle.project_page.proofs.Appended.{joined}
use Rattle.project_page.proofs.conflict.push_conflict.Goals as goal

pub returns : goal.returns
unfolding pages.conflict
returns c =
    let conflict = c.args.conflict.now in
    let name = ref_text conflict.book conflict.key in
    let pick = picked conflict.picked in
    let end = html.CONFLICT_END.now in
    let before = pages.near said html.BEFORE.now (string_bytes conflict.before) in
    let texts = pages.texts said pick (views conflict.entries.items) in
    let repeated = flat_map (pages.repeated said) (map (λ op. op.now) conflict.repeated.items) in
    let after = pages.near said html.AFTER.now (string_bytes conflict.after) in
    let ids = pages.id_words said (conflict_view conflict) in
    let legend = html.LEGEND.now in
    let spoken = c.in_ok-push_name.ensures
    ∙ ap (λ (t : List ℕ). c.push_html-2.new.page.items ++ said LeftOut t) (c.as_str.ensures.value ∙ c.in_ok-reference.ensures) in
    let near = c.in_ok-push_near.ensures
    ∙ ap (λ (t : List ℕ). c.push_html-3.new.page.items ++ pages.near said html.BEFORE.now t) c.deref.ensures in
    let placed = c.in_ok-push_near-2.ensures
    ∙ ap (λ (t : List ℕ). c.push_repeated.new.page.items ++ pages.near said html.AFTER.now t) c.deref-4.ensures in
    let side = c.in_ok-push_entries.ensures
    ∙ ap (λ (es : List Entry). c.push_near.new.page.items ++ pages.texts said pick (views es)) c.deref-2.ensures.value in
    let again = c.in_ok-push_repeated.ensures
    ∙ ap (λ (ops : List (Bor Operation)). c.push_entries.new.page.items
    ++ flat_map (pages.repeated said) (map (λ op. op.now) ops)) c.deref-3.ensures.value in
    let rest = html.NAMED.now ++ (before ++ (texts ++ (repeated ++ (after ++ end)))) in
    on_ok_weaker c.push_html-4.result (λ last.
    joined c.args.page.now.items html.CONFLICT.now (ids ++ (legend ++ (said LeftOut name ++ rest)))
    c.in_ok-push_html.ensures
    (joined c.push_html.new.page.items ids (legend ++ (said LeftOut name ++ rest)) c.in_ok-push_ids.ensures
    (joined c.push_ids.new.page.items legend (said LeftOut name ++ rest) c.in_ok-push_html-2.ensures
    (joined c.push_html-2.new.page.items (said LeftOut name) rest spoken
    (joined c.push_name.new.page.items html.NAMED.now (before ++ (texts ++ (repeated ++ (after ++ end)))) c.in_ok-push_html-3.ensures
    (joined c.push_html-3.new.page.items before (texts ++ (repeated ++ (after ++ end))) near
    (joined c.push_near.new.page.items texts (repeated ++ (after ++ end)) side
    (joined c.push_entries.new.page.items repeated (after ++ end) again
    (joined c.push_repeated.new.page.items after end placed last))))))))) c.push_html-4.ensures
