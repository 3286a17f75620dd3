use Rattle.std.proofs.Common.{◌≡◌, ◌++◌, ℕ, List, length, map, ap, ◌∙◌, arith}
use Rattle.std.specs.List.{flat_map}
use Rattle.std.proofs.lemmas.List.{length-map}
use Rattle.std.proofs.lemmas.Result.{on_ok_weaker}
use Rattle.project_status.specs.declared.makers.Maker.{Maker}
use Rattle.project_page.specs.Pages as pages
use Rattle.project_page.specs.Parts.{book_view, conflict_view}
use Rattle.project_page.specs.Said.{said}
use Rattle.project_page.specs.declared.markup.TheConstants as html
use Rattle.project_page.proofs.Appended.{joined}
use Rattle.project_page.proofs.standing.push_standing.Goals as goal

pub returns : goal.returns
unfolding pages.standing
returns c =
    let parts = c.args.parts.now in
    let start = c.args.page.now.items in
    let books : c.len.result ≡ length (map book_view parts.books.items) =
    omega (arith, c.len.ensures, parts.books.ok.0, length-map parts.books.items book_view) in
    let conflicts : c.len-2.result ≡ length (map conflict_view parts.conflicts.items) =
    omega (arith, c.len-2.ensures, parts.conflicts.ok.0, length-map parts.conflicts.items conflict_view) in
    let awaited : c.len-3.result ≡ length parts.awaited.items = omega (arith, c.len-3.ensures, parts.awaited.ok.0) in
    let b = pages.row html.BOOKS.now (length (map book_view parts.books.items)) in
    let v = pages.row html.VERSES.now parts.verses in
    let m = flat_map (pages.maker_row said) parts.makers.items in
    let r = pages.row html.REPLACED.now parts.replaced in
    let t = pages.row html.THINNED.now parts.thinned in
    let k = pages.row html.CONFLICTS_ROW.now (length (map conflict_view parts.conflicts.items)) in
    let a = pages.row html.AWAITED_ROW.now (length parts.awaited.items) in
    let first = c.in_ok-push_row.ensures ∙ ap (λ (n : ℕ). start ++ pages.row html.BOOKS.now n) books in
    let makers = c.in_ok-push_makers.ensures
    ∙ ap (λ (ms : List Maker). c.push_row-2.new.page.items ++ flat_map (pages.maker_row said) ms) c.deref.ensures.value in
    let open_ones = c.in_ok-push_row-5.ensures
    ∙ ap (λ (n : ℕ). c.push_row-4.new.page.items ++ pages.row html.CONFLICTS_ROW.now n) conflicts in
    on_ok_weaker c.push_row-6.result (λ last.
    joined start b (v ++ (m ++ (r ++ (t ++ (k ++ a))))) first
    (joined c.push_row.new.page.items v (m ++ (r ++ (t ++ (k ++ a)))) c.in_ok-push_row-2.ensures
    (joined c.push_row-2.new.page.items m (r ++ (t ++ (k ++ a))) makers
    (joined c.push_makers.new.page.items r (t ++ (k ++ a)) c.in_ok-push_row-3.ensures
    (joined c.push_row-3.new.page.items t (k ++ a) c.in_ok-push_row-4.ensures
    (joined c.push_row-4.new.page.items k a open_ones
    (last ∙ ap (λ (n : ℕ). c.push_row-5.new.page.items ++ pages.row html.AWAITED_ROW.now n) awaited)))))))
    c.push_row-6.ensures
