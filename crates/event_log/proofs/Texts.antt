-- The lines of a text, one at a time.
use Rattle.std.proofs.Common.{ℕ, zero, suc, List, [], ◌∷◌, ◌++◌, ◌≡◌, ◌≢◌, ◌≤◌, ◌<◌, ◌+◌, ◌%◌, ◌^◌, length, drop, map, refl, sym, ap, ◌∙◌, arith, append_assoc, append-nil, length-append}
use Rattle.std.specs.Prelude.{◌==◌}
use Rattle.std.specs.List.{All, position_or_len}
use Rattle.std.proofs.lemmas.List.{length-drop, map-append}
use Rattle.std.proofs.lemmas.List.Elements.{All-nil, All-push}
use Rattle.columnar_core.specs.Row.{Row}
use Rattle.event_log.specs.Unread.{IfNumber}
use Rattle.event_log.specs.declared.lines.Reason.{Reason}
use Rattle.event_log.specs.declared.reading.Unread.{Unread}
use Rattle.event_log.specs.declared.reading.Unread.TheVariants.{Line, Failed}
use Rattle.event_log.specs.Lines.{IsEvent, line, after_line, line_row, lines_within, lines_of, AreRead, IsRefused}

-- the text after a line is shorter
pub line_shortens : (b : ℕ) (bs : List ℕ) → length (after_line (b ∷ bs)) ≤ length bs
line_shortens b bs = omega (arith, length-drop (position_or_len (λ c. c == 10) (b ∷ bs) + 1) (b ∷ bs))

-- more steps than bytes change nothing
lines_same : (n m : ℕ) (text : List ℕ) → length text ≤ n → length text ≤ m → lines_within n text ≡ lines_within m text
lines_same zero zero text l k = refl
lines_same zero (suc m) [] l k = refl
lines_same zero (suc m) (b ∷ bs) l k = absurd (omega arith)
lines_same (suc n) zero [] l k = refl
lines_same (suc n) zero (b ∷ bs) l k = absurd (omega arith)
lines_same (suc n) (suc m) [] l k = refl
lines_same (suc n) (suc m) (b ∷ bs) l k =
    let s = line_shortens b bs in
    ap (λ ls. line (b ∷ bs) ∷ ls) (lines_same n m (after_line (b ∷ bs)) (omega arith) (omega arith))

-- the first line, and the others
pub lines_step : (text : List ℕ) → text ≢ [] → lines_of text ≡ line text ∷ lines_of (after_line text)
lines_step [] some = absurd (some refl)
lines_step (b ∷ bs) some =
    let s = line_shortens b bs in
    ap (λ ls. line (b ∷ bs) ∷ ls) (lines_same (length bs) (length (after_line (b ∷ bs))) (after_line (b ∷ bs)) s (omega arith))

-- one more line of a text is read
one_line : (done : List (List ℕ)) (text rest first after : List ℕ) → lines_of text ≡ done ++ lines_of rest → rest ≢ [] → first ≡ line rest → after ≡ after_line rest
    → lines_of text ≡ done ++ first ∷ lines_of after
one_line done text rest first after e some f a = rw (f, a) (e ∙ ap (λ ls. done ++ ls) (lines_step rest some))

pub none_read : (text : List ℕ) (rows : List Row) → rows ≡ [] → AreRead text text rows 0
none_read text rows e = record { done = []; lines = refl; events = All-nil IsEvent; made = e; counted = refl }

pub one_read : (text rest first after : List ℕ) (rows new : List Row) (count next : ℕ) → AreRead text rest rows count → rest ≢ [] → first ≡ line rest → after ≡ after_line rest
    → IsEvent first → new ≡ rows ++ (line_row first ∷ []) → next ≡ (count + 1) % 2 ^ 64 → AreRead text after new next
one_read text rest first after rows new count next r some f a event grew more =
    let counted = r.counted in
    let longer = length-append r.done (first ∷ []) in
    record {
      done = r.done ++ (first ∷ []);
      lines = one_line r.done text rest first after r.lines some f a ∙ sym (append_assoc r.done (first ∷ []) (lines_of after));
      events = All-push IsEvent r.done first r.events event;
      made = grew ∙ ap (λ rs. rs ++ (line_row first ∷ [])) r.made ∙ sym (map-append line_row r.done (first ∷ []));
      counted = omega (arith, counted, longer, more);
    }

pub one_refused : (text rest first after : List ℕ) (rows : List Row) (count next : ℕ) → AreRead text rest rows count → rest ≢ [] → first ≡ line rest → after ≡ after_line rest
    → (IsEvent first → ⊥) → next ≡ (count + 1) % 2 ^ 64 → IsRefused text next
one_refused text rest first after rows count next r some f a none more =
    let counted = r.counted in
    record {
      done = r.done;
      refused = first;
      later = lines_of after;
      lines = one_line r.done text rest first after r.lines some f a;
      events = r.events;
      none = none;
      counted = omega (arith, counted, more);
    }

pub none_long : (xs : List ℕ) → length xs ≡ 0 → xs ≡ []
none_long [] e = refl
none_long (x ∷ xs) e = cc

-- if the rest is empty, all lines were processed
pub all_done : (text : List ℕ) (rows : List Row) (count : ℕ) → AreRead text [] rows count → All IsEvent (lines_of text) × (rows ≡ map line_row (lines_of text))
all_done text rows count r =
    let e = r.lines ∙ append-nil r.done in
    (rw e r.events, r.made ∙ ap (λ ls. map line_row ls) (sym e))

-- what is known about the number of a rejected line, when the rejection is passed on
pub line_passed : (e : Unread) (P Q : ℕ → Type 0) → ((n : ℕ) → P n → Q n) → IfNumber e P → IfNumber e Q
line_passed (Line n reason) P Q h p = h n p
line_passed (Failed failure) P Q h p = tt

-- the same if the reason is a line
pub line_number : (e : Unread) (n : ℕ) (reason : Reason) (P : ℕ → Type 0) → e ≡ Line n reason → IfNumber e P → P n
line_number e n reason P same p = rw same at p
