-- Structs written one after the other into an array.
use Rattle.std.proofs.Common.{◌≡◌, ℕ, ◌+◌, ◌<◌, ◌≤◌, List, [], ◌∷◌, ◌++◌, refl, sym, ap, subst, ◌∙◌, arith, append_assoc, slice_set, length-append}
use Rattle.std.specs.Prelude.{length}
use Rattle.std.proofs.lemmas.List.{append-nil}
use Rattle.cron_c.specs.Arrays.{Fills, IsFront, IsPage, IsWhole}
use Rattle.cron_c.specs.declared.status.Status.{Status}
use Rattle.cron_c.specs.declared.status.Status.TheVariants.{Done, NoItem, Refused, NotUtf8, BadZone, BadInstant, NotAnItem, Untold, More, NoMemory}

module _ {A X : Type 0} (Is : A → X → Type 0) where
  -- one more behind those that are written
  pub front_more : (l : List A) (old now : List X) (a : A) (x : X) → IsFront Is l old now → length l < length old → Is a x
      → IsFront Is (l ++ a ∷ []) old (slice_set now (length l) x)
  unfolding IsFront
  front_more [] [] now a x e room i = absurd (omega arith)
  front_more [] (o ∷ old) now a x e room i = subst (λ (n : List X). IsFront Is (a ∷ []) (o ∷ old) (slice_set n 0 x)) (sym e) (i, refl)
  front_more (b ∷ l) [] now a x p room i = absurd p
  front_more (b ∷ l) (o ∷ old) [] a x p room i = absurd p
  front_more (b ∷ l) (o ∷ old) (y ∷ now) a x p room i = (p.0, front_more l old now a x p.1 (omega arith) i)

  pub front_none : (old : List X) → IsFront Is [] old old
  unfolding IsFront
  front_none old = refl

  pub front_size : (l : List A) (old new : List X) → IsFront Is l old new → (length l ≤ length old) × (length new ≡ length old)
  unfolding IsFront
  front_size [] old new e = (omega arith, ap length e)
  front_size (a ∷ l) [] new p = absurd p
  front_size (a ∷ l) (o ∷ old) [] p = absurd p
  front_size (a ∷ l) (o ∷ old) (y ∷ new) p = let (within, size) = front_size l old new p.1 in (omega arith, omega arith)

  pub front_on : (l m : List A) (old front back new : List X) → IsFront Is l old (front ++ back) → length front ≡ length l → IsFront Is m back new
      → IsFront Is (l ++ m) old (front ++ new)
  unfolding IsFront
  front_on [] m old [] back new is size on = subst (λ (o : List X). IsFront Is m o new) is on
  front_on [] m old (y ∷ front) back new is size on = absurd (omega arith)
  front_on (a ∷ l) m old [] back new is size on = absurd (omega arith)
  front_on (a ∷ l) m [] (y ∷ front) back new is size on = absurd is
  front_on (a ∷ l) m (o ∷ old) (y ∷ front) back new is size on = (is.0, front_on l m old front back new is.1 (omega arith) on)

  -- ---- the loop

  -- so many of a run are written, and the others are left
  pub record IsRunning (all left : List A) (old now : List X) (count : ℕ) : Type 0 where
    pub written : List A
    pub cut : all ≡ written ++ left
    pub items : IsFront Is written old now
    pub counted : count ≡ length written

  pub running_begins : (all : List A) (old : List X) → IsRunning all all old old 0
  running_begins all old = record { written = []; cut = refl; items = front_none old; counted = refl }

  pub running_goes_on : (all left rest : List A) (old now : List X) (a : A) (x : X) (count : ℕ)
      → IsRunning all left old now count → left ≡ a ∷ rest → count < length old → Is a x → IsRunning all rest old (slice_set now count x) (count + 1)
  running_goes_on all left rest old now a x count f first room item =
      let more : count + 1 ≡ length (f.written ++ a ∷ []) = omega (arith, f.counted, length-append f.written (a ∷ [])) in
      let within : length f.written < length old = omega (arith, f.counted) in
      record {
        written = f.written ++ a ∷ [];
        cut = f.cut ∙ (ap (λ (l : List A). f.written ++ l) first ∙ sym (append_assoc f.written (a ∷ []) rest));
        items = subst (λ (n : ℕ). IsFront Is (f.written ++ a ∷ []) old (slice_set now n x)) (sym f.counted) (front_more f.written old now a x f.items within item);
        counted = more;
      }

  pub running_ends : (all left : List A) (old now : List X) (count : ℕ) → IsRunning all left old now count → left ≡ [] → IsWhole Is all old now count
  running_ends all left old now count f none =
      let whole : all ≡ f.written = f.cut ∙ (ap (λ (l : List A). f.written ++ l) none ∙ append-nil f.written) in
      (subst (λ (l : List A). IsFront Is l old now) (sym whole) f.items, f.counted ∙ ap length (sym whole))

  pub running_is_full : (all left rest : List A) (old now : List X) (a : A) (count : ℕ)
      → IsRunning all left old now count → left ≡ a ∷ rest → count ≡ length old → IsPage Is all old now count
  running_is_full all left rest old now a count f first full =
      record {
        written = f.written;
        next = a;
        left = rest;
        cut = f.cut ∙ ap (λ (l : List A). f.written ++ l) first;
        items = f.items;
        counted = f.counted;
        full = full;
      }

  -- what a full or a whole list makes true is so
  pub filled_says : (all : List A) (old new : List X) (count : ℕ) (Says : Status → Type 0) (status : Status)
      → (IsWhole Is all old new count → Says Done) → (IsPage Is all old new count → Says More) → Fills Is all old new count status → Says status
  filled_says all old new count Says Done whole page f = whole f
  filled_says all old new count Says More whole page f = page f
  filled_says all old new count Says NoItem whole page f = absurd f
  filled_says all old new count Says Refused whole page f = absurd f
  filled_says all old new count Says NotUtf8 whole page f = absurd f
  filled_says all old new count Says BadZone whole page f = absurd f
  filled_says all old new count Says BadInstant whole page f = absurd f
  filled_says all old new count Says NotAnItem whole page f = absurd f
  filled_says all old new count Says Untold whole page f = absurd f
  filled_says all old new count Says NoMemory whole page f = absurd f
