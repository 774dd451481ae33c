use Rattle.std.proofs.Common.{◌≡◌, ◌∷◌, [], ℕ, ◌++◌, ◌∙◌, List, false, ap, sym}
use Rattle.std.specs.Prelude.{Result, Ok, Err, OnOk, is_err}
use Rattle.columnar.specs.Row.{Row, number}
use Rattle.columnar.specs.Format.{Format, Content, IsSound, IsExact}
use Rattle.columnar.specs.Frame.{framed_slices}
use Rattle.columnar.specs.Change.{Took}
use Rattle.columnar.specs.Stashes.{stash_content, written_bytes}
use Rattle.columnar.specs.ChangeLaws.{grew_exactly}
use Rattle.columnar.specs.AlikeLaws.{row_eq_exact}
use Rattle.roster.proofs.Seven.{encoded_seven}
use Rattle.roster.proofs.cli.written_seven.Goals as goal

-- what a successful call ensures
done : {T E P : Type 0} (r : Result T E) → is_err r ≡ false → OnOk r P → P
done (Ok x) h p = p
done (Err e) h p = cc

-- a row pushed to an empty column is the only row of the written bytes
one_row : {f : Format} {old new : Content} {r : Row} {held bs : List ℕ} (ws : List ℕ) → IsExact f.alike → f.rows old ≡ [] → Took f old new (r ∷ []) → held ≡ [] → bs ≡ held ++ ws → (IsSound f new → f.build (framed_slices ws) ≡ new) → f.rows (f.build (framed_slices bs)) ≡ r ∷ []
one_row {f} {old} {new} {r} {held} {bs} ws e none took empty same content =
    let g = grew_exactly e took in
    ap (λ b. f.rows (f.build (framed_slices b))) (same ∙ ap (λ b. b ++ ws) empty) ∙ ap (λ x. f.rows x) (content g.sound) ∙ g.rows ∙ ap (λ rs. rs ++ (r ∷ [])) none

-- src/cli.rt:68:1
pub returns-clause-rows : goal.returns-clause-rows
returns-clause-rows c =
    let pushed = sym c.is_err.ensures.value ∙ c.if-is_err.false in
    let wrote = sym c.is_err-3.ensures.value ∙ c.if-is_err-3.false in
    one_row (written_bytes c.push.new.self) row_eq_exact c.empty-stash.ensures.rows
    (done c.push.result pushed c.push.ensures.ok)
    c.new-bytes.ensures.items
    (done c.write_bytes.result wrote c.write_bytes.ensures.ok)
    (done c.write_bytes.result wrote c.write_bytes.ensures.content)

pub returns-clause-words : goal.returns-clause-words
returns-clause-words c =
    let pushed = sym c.is_err.ensures.value ∙ c.if-is_err.false in
    let wrote = sym c.is_err-2.ensures.value ∙ c.if-is_err-2.false in
    let g = grew_exactly row_eq_exact (done c.push.result pushed c.push.ensures.ok) in
    encoded_seven c.new-words.result.items c.encode.new.store.items (stash_content c.push.new.self) _ g.sound (g.rows ∙ ap (λ rs. rs ++ (number 7 ∷ [])) c.empty-stash.ensures.rows)
    c.borrow.ensures.content c.new-words.ensures.items (done c.encode.result wrote c.encode.ensures.ok)
