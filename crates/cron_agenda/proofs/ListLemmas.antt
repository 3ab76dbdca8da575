-- Lists at one of their places, and options.
use Rattle.std.proofs.Common.{◌≡◌, ℕ, zero, suc, ◌+◌, ◌<◌, ◌≤◌, Bool, true, false, List, [], ◌∷◌, ◌++◌, length, set, get_or, Option, Some, None, refl, sym, ap, subst, arith}
use Rattle.std.specs.Prelude.{slice_get, not, Result, Ok, Err, OnErr, OnOk}
use Rattle.std.specs.Result.{is_err}
use Rattle.std.specs.Option.{is_none, is_some}
use Rattle.cron_agenda.specs.declared.fire.EntryFire.{EntryFire}

-- a list at one of its places
pub record Split {X : Type 0} (l : List X) (place : ℕ) (x : X) : Type 0 where
  pub before : List X
  pub after : List X
  pub is : l ≡ before ++ x ∷ after
  pub at : length before ≡ place
  pub put : (y : X) → set l place y ≡ before ++ y ∷ after

pub split : {X : Type 0} (l : List X) (i : ℕ) (x : X) → slice_get l i ≡ Some x → Split l i x
split [] zero x e = cc
split [] (suc i) x e = cc
split (y ∷ l) zero x e =
    let same : y ≡ x = cc in record {
      before = [];
      after = l;
      is = ap (λ v. v ∷ l) same;
      at = refl;
      put = λ v. refl;
    }
split (y ∷ l) (suc i) x e =
    let rest = split l i x e in record {
      before = y ∷ rest.before;
      after = rest.after;
      is = ap (λ v. y ∷ v) rest.is;
      at = ap suc rest.at;
      put = λ v. ap (λ w. y ∷ w) (rest.put v);
    }

pub get-before : {X : Type 0} (a b : List X) (i : ℕ) (v : X) → slice_get a i ≡ Some v → slice_get (a ++ b) i ≡ Some v
get-before [] b zero v e = cc
get-before [] b (suc i) v e = cc
get-before (y ∷ a) b zero v e = e
get-before (y ∷ a) b (suc i) v e = get-before a b i v e

pub get-behind : {X : Type 0} (a b : List X) (i j : ℕ) (v : X) → j ≡ length a + i → slice_get b i ≡ Some v → slice_get (a ++ b) j ≡ Some v
get-behind [] b i j v is e = let same : i ≡ j = omega arith in subst (λ k. slice_get b k ≡ Some v) same e
get-behind (y ∷ a) b i zero v is e = absurd (omega arith)
get-behind (y ∷ a) b i (suc j) v is e = get-behind a b i j v (omega arith) e

pub some_same : {X : Type 0} {x y : X} → Some x ≡ Some y → x ≡ y
some_same e = cc

-- what a list has at a place, and that it has nothing past its end
pub get_there : {X : Type 0} (l : List X) (i : ℕ) (v : X) → i < length l → ((d : X) → v ≡ get_or l i d) → slice_get l i ≡ Some v
get_there [] i v less e = absurd (omega arith)
get_there (x ∷ l) zero v less e = ap Some (sym (e x))
get_there (x ∷ l) (suc i) v less e = get_there l i v (omega arith) e

pub get_past : {X : Type 0} (l : List X) (i : ℕ) → length l ≤ i → slice_get l i ≡ None
get_past [] zero le = refl
get_past [] (suc i) le = refl
get_past (x ∷ l) zero le = absurd (omega arith)
get_past (x ∷ l) (suc i) le = get_past l i (omega arith)

pub has_fire : (h : Option EntryFire) → is_some h ≡ true → (q : EntryFire) × (h ≡ Some q)
has_fire None e = cc
has_fire (Some q) e = (q, refl)

pub on_ok : {A E P : Type 0} (r : Result A E) → is_err r ≡ false → OnOk r P → P
on_ok (Ok x) e h = h
on_ok (Err x) e h = cc

pub on_err : {A E P : Type 0} (r : Result A E) → is_err r ≡ true → OnErr r P → P
on_err (Ok x) e h = cc
on_err (Err x) e h = h

pub none_told : {X : Type 0} (h : Option X) (b : Bool) → is_some h ≡ not b → is_none h ≡ b
none_told h true told = ap not told
none_told h false told = ap not told

pub none_of : (h : Option EntryFire) → is_none h ≡ true → h ≡ None
none_of None e = refl
none_of (Some q) e = cc

pub some_of : (h : Option EntryFire) → is_none h ≡ false → (q : EntryFire) × (h ≡ Some q)
some_of None e = cc
some_of (Some q) e = (q, refl)
