use Rattle.std.proofs.Common.{◌≡◌, ◌++◌, ◌∷◌, ◌∙◌, [], ℕ, List, Bool, true, false, ap, append-nil, arith, length, length-append, map, refl, subst, sym}
use Rattle.std.proofs.lemmas.Bool.{false≢true}
use Rattle.std.proofs.lemmas.Slice.Eq.{bytes_eq-Decides}
use Rattle.std.specs.Str.{bytes_eq}
use Rattle.cron_canonical.specs.Short.{items_text, number_items, run_item, runs_of}
use Rattle.cron_units.specs.Units.{IsSet, TimeUnit, whole}
use Rattle.cron_canonical.proofs.RoomLemmas.{numbers_room}
use Rattle.cron_canonical.proofs.numbers.push_numbers.Goals as goal

pub push_runs-requires : goal.push_runs-requires
push_runs-requires g c =
    let same = sym c.in-Some.ensures.steps ∙ c.iter-ordinals.ensures.members in
    let is = subst (IsSet g.T.TimeUnitSpec.time_unit) (sym same) c.iter-ordinals.ensures.set in
    let room = numbers_room _ _ c.requires.digits is in
    omega (arith, c.requires.room)

pub returns-in-Some-clause-len : goal.returns-in-Some-clause-len
returns-in-Some-clause-len g c =
    let same = sym c.in-Some.ensures.steps ∙ c.iter-ordinals.ensures.members in
    let is = subst (IsSet g.T.TimeUnitSpec.time_unit) (sym same) c.iter-ordinals.ensures.set in
    let room = numbers_room _ _ c.requires.digits is in
    omega (arith, ap length c.push_runs.ensures, length-append c.args.text.now.items (items_text (map run_item (runs_of (c.in-Some.start ∷ c.next.new.self)))))

no_runs : items_text (map run_item (runs_of [])) ≡ []
unfolding runs_of
no_runs = refl

false_from : (b : Bool) → (b ≡ true → ⊥) → b ≡ false
false_from true f = absurd (f refl)
false_from false f = refl

-- numbers that aren't all are runs
some_numbers : (u : TimeUnit) (xs : List ℕ) → (xs ≡ whole u → ⊥) → items_text (number_items u xs) ≡ items_text (map run_item (runs_of xs))
some_numbers u xs n = rw (false_from (bytes_eq xs (whole u)) (λ t. n ((bytes_eq-Decides xs (whole u)).0 t))) refl

pub returns-in_default-clause-items : goal.returns-in_default-clause-items
returns-in_default-clause-items g c =
    let same = sym c.in_default.ensures.steps.0 ∙ c.iter-ordinals.ensures.members in
    let none = some_numbers _ _ (λ all. false≢true (c.if-is_all.ensures.1 all)) ∙ (ap (λ (xs : List ℕ). items_text (map run_item (runs_of xs))) (sym same) ∙ no_runs) in
    sym (ap (λ (t : List ℕ). c.args.text.now.items ++ t) none ∙ append-nil c.args.text.now.items)
