use Rattle.std.proofs.Common.{◌≡◌, ◌-◌, ◌/◌, ℕ, drop, inl, inr, refl, set, sym, subst, ◌∙◌, arith, length-set}
use Rattle.std.proofs.lemmas.List.{drop-set-lt}
use Rattle.cron_agenda.specs.Inner.Tree.{IsLeastBelow, IsRightAt}
use Rattle.cron_agenda.proofs.LeastLemmas.{least_with}
use Rattle.cron_agenda.proofs.TreeLemmas.{set_right}
use Rattle.cron_agenda.proofs.earliest.write.Goals as goal

pub loop-at-init : goal.loop-at-init
loop-at-init c = record {
  from = omega arith;
  fits = (let most = c.ranges.word.fits in omega arith);
  right = λ i is apart. elim is [ inl right ↦ right | inr above ↦ absurd (apart above) ];
  rest = λ n h. refl;
}

pub loop-at-preserved : goal.loop-at-preserved
loop-at-preserved c =
    let above : ℕ = (c.loop-at.at - 1) / 8 in
    let written = set c.loop-at.words c.loop-at.at c.loop-at.least in
    let size = length-set c.loop-at.words c.loop-at.at c.loop-at.least in
    let same = c.loop-at.auto.words in
    let low = c.loop-at.invariant.from in
    let fits = c.loop-at.invariant.fits in
    let within = c.requires.from in
    let some = c.loop-at-test.true in
    let lesser = c.min-least.ensures in
    let least = subst (IsLeastBelow written above) (sym lesser)
    (least_with c.loop-at.words c.loop-at.at above c.loop-at.least c.least_beside-beside.result (omega arith) (omega arith, omega arith) fits c.least_beside-beside.ensures) in
    record {
      from = omega arith;
      fits = omega arith;
      right = λ i is apart.
          set_right written above c.min-least.result (omega arith) least i apart
          (λ other. c.loop-at.invariant.right i is (λ under. let before = under.0 in let behind = under.1 in other (omega arith)));
      rest = λ n h. drop-set-lt n written above c.min-least.result (omega arith) ∙ c.loop-at.invariant.rest n h;
    }

pub returns-clause-right : goal.returns-clause-right
returns-clause-right c = λ i is.
    let first : c.loop-at.at ≡ 0 = (let ended = c.loop-at-test.false in omega arith) in
    subst (λ k. IsRightAt (set c.loop-at.words k c.loop-at.least) i) first
    (c.loop-at.invariant.right i is (λ under. let before = under.0 in omega arith))

pub returns-clause-rest : goal.returns-clause-rest
returns-clause-rest c = λ n h.
    let first : c.loop-at.at ≡ 0 = (let ended = c.loop-at-test.false in omega arith) in
    subst (λ k. drop n (set c.loop-at.words k c.loop-at.least) ≡ drop n (set c.args.words.now c.args.from c.args.word)) first
    (c.loop-at.invariant.rest n h)
