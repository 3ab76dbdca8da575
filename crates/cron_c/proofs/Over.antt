-- Bytes laid over a buffer piece by piece.
use Rattle.std.proofs.Common.{◌≡◌, ℕ, zero, suc, ◌+◌, ◌≤◌, min, List, [], ◌∷◌, ◌++◌, refl, sym, ap, subst, ◌∙◌, arith, length-append, MutBor}
use Rattle.std.specs.Prelude.{length, take, drop, Option, Some, None, IfSome}
use Rattle.std.specs.List.{FoldsTo, concat}
use Rattle.std.specs.Fmt.{WritesInCalls, WritesText}
use Rattle.cron_c.specs.Buffers.{laid_over, Takes}
use Rattle.cron_c.specs.declared.buffer.Sink.{Sink}

pub over_front : (xs bs : List ℕ) (n : ℕ) → n ≡ min (length xs) (length bs) → laid_over 0 bs xs ≡ take n bs ++ drop n xs
unfolding laid_over
over_front [] bs zero e = refl
over_front [] bs (suc n) e = absurd (omega arith)
over_front (x ∷ xs) [] zero e = refl
over_front (x ∷ xs) [] (suc n) e = absurd (omega arith)
over_front (x ∷ xs) (b ∷ bs) zero e = absurd (omega arith)
over_front (x ∷ xs) (b ∷ bs) (suc n) e = ap (λ (l : List ℕ). b ∷ l) (over_front xs bs n (omega arith))

pub over_at : (front back bs : List ℕ) → laid_over (length front) bs (front ++ back) ≡ front ++ laid_over 0 bs back
unfolding laid_over
over_at [] back bs = refl
over_at (x ∷ front) back bs = ap (λ (l : List ℕ). x ∷ l) (over_at front back bs)

pub over_past : (xs bs : List ℕ) (at : ℕ) → length xs ≤ at → laid_over at bs xs ≡ xs
unfolding laid_over
over_past [] bs at l = refl
over_past (x ∷ xs) bs zero l = absurd (omega arith)
over_past (x ∷ xs) bs (suc at) l = ap (λ (l : List ℕ). x ∷ l) (over_past xs bs at (omega arith))

over_nothing : (xs : List ℕ) (at : ℕ) → laid_over at [] xs ≡ xs
unfolding laid_over
over_nothing [] at = refl
over_nothing (x ∷ xs) zero = refl
over_nothing (x ∷ xs) (suc at) = ap (λ (l : List ℕ). x ∷ l) (over_nothing xs at)

over_join : (xs bs cs : List ℕ) (at : ℕ) → laid_over (at + length bs) cs (laid_over at bs xs) ≡ laid_over at (bs ++ cs) xs
unfolding laid_over
over_join [] bs cs at = refl
over_join (x ∷ xs) bs cs (suc at) =
    let next : suc at + length bs ≡ suc (at + length bs) = omega arith in
    ap (λ (n : ℕ). laid_over n cs (x ∷ laid_over at bs xs)) next ∙ ap (λ (l : List ℕ). x ∷ l) (over_join xs bs cs at)
over_join (x ∷ xs) [] cs zero =
    let same : zero + 0 ≡ zero = omega arith in ap (λ (n : ℕ). laid_over n cs (x ∷ xs)) same
over_join (x ∷ xs) (b ∷ bs) cs zero =
    let next : zero + length (b ∷ bs) ≡ suc (zero + length bs) = omega arith in
    ap (λ (n : ℕ). laid_over n cs (b ∷ laid_over zero bs xs)) next ∙ ap (λ (l : List ℕ). b ∷ l) (over_join xs bs cs zero)

-- ---- the sink

takes_nothing : (w : Sink) → Takes w [] w
takes_nothing w =
    let same : w.length ≡ w.length + 0 = omega arith in
    record { counted = same; laid = sym (over_nothing w.buffer.now w.length); lent = refl }

takes_both : (w v u : Sink) (a b : List ℕ) → Takes w a v → Takes v b u → Takes w (a ++ b) u
takes_both w v u a b p q =
    let count : u.length ≡ w.length + length (a ++ b) = omega (arith, p.counted, q.counted, length-append a b) in
    record {
      counted = count;
      laid = q.laid ∙ (ap (λ (n : ℕ). laid_over n b v.buffer.now) p.counted
          ∙ (ap (laid_over (w.length + length a) b) p.laid ∙ over_join w.buffer.now a b w.length));
      lent = q.lent ∙ p.lent;
    }

takes_parts : (w v : Sink) (parts : List (List ℕ)) → FoldsTo Takes w parts v → Takes w (concat parts) v
takes_parts w v [] p = subst (λ (x : Sink). Takes w [] x) p (takes_nothing w)
takes_parts w v (x ∷ xs) p = takes_both w p.0 v x (concat xs) p.1 (takes_parts p.0 v xs p.2)

-- calls of `write_str` that together write a text take it
pub takes_text : (w v : Sink) (text : List ℕ) → WritesInCalls Takes w text v → Takes w text v
takes_text w v text p = subst (λ (t : List ℕ). Takes w t v) p.whole (takes_parts w v p.parts p.calls)

-- what the buffer of a sink that took a text holds when it is given back
pub told : {after : List ℕ} (begun new : Sink) (back : MutBor (List ℕ)) (text : List ℕ) → begun.length ≡ 0 → back ≡ new.buffer
    → (back.ghost_name ≡ begun.buffer.ghost_name → after ≡ back.now) → WritesInCalls Takes begun text new
    → (after ≡ laid_over 0 text begun.buffer.now) × (new.length ≡ length text)
told begun new back text none is given writes =
    let takes = takes_text begun new text writes in
    let kept = given (ap (λ (b : MutBor (List ℕ)). b.ghost_name) is ∙ takes.lent) ∙ ap (λ (b : MutBor (List ℕ)). b.now) is in
    let count : new.length ≡ length text = omega (arith, takes.counted, none) in
    (kept ∙ (takes.laid ∙ ap (λ (n : ℕ). laid_over n text begun.buffer.now) none), count)

-- the same of a text that may be unknown
pub told_if : {after : List ℕ} (begun new : Sink) (back : MutBor (List ℕ)) (text : Option (List ℕ)) → begun.length ≡ 0 → back ≡ new.buffer
    → (back.ghost_name ≡ begun.buffer.ghost_name → after ≡ back.now) → WritesText Takes begun text new
    → IfSome text (λ t. (after ≡ laid_over 0 t begun.buffer.now) × (new.length ≡ length t))
told_if begun new back None none is given writes = tt
told_if begun new back (Some text) none is given writes = told begun new back text none is given writes

pub untold : (text : Option (List ℕ)) → IfSome text (λ t. Unit {0})
untold None = tt
untold (Some text) = tt
