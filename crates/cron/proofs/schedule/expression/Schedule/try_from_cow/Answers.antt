use Rattle.std.proofs.Common.{IfErr, IfOk, Global, sym, subst, rules}
use Rattle.std.specs.Cow.{cow_str_bytes}
use Rattle.std.specs.declared.borrow.CowStr.{CowStr}
use Rattle.cron_text.specs.Meaning.{Means, MeansNothing}
use Rattle.cron.proofs.schedule.expression.Schedule.try_from_cow.Goals as goal

pub returns-in-Owned-clause-accepted : goal.returns-in-Owned-clause-accepted
returns-in-Owned-clause-accepted c _ =
    let told : CowStr Global → Type 0 = λ text. IfErr c.try_from_string.result (λ _. MeansNothing (cow_str_bytes text)) in
    subst told (sym c.in-Owned.is) c.try_from_string.ensures.accepted

pub returns-in-Borrowed-clause-means : goal.returns-in-Borrowed-clause-means
returns-in-Borrowed-clause-means c =
    let told : CowStr Global → Type 0 = λ text. IfOk c.from_str.result (λ s. Means (cow_str_bytes text) s.sets) in
    subst told (sym c.in-Borrowed.is) c.from_str.ensures.means

pub returns-in-Borrowed-clause-source : goal.returns-in-Borrowed-clause-source
returns-in-Borrowed-clause-source c = search rules

pub returns-in-Borrowed-clause-refused : goal.returns-in-Borrowed-clause-refused
returns-in-Borrowed-clause-refused c = search rules

pub returns-in-Borrowed-clause-accepted : goal.returns-in-Borrowed-clause-accepted
returns-in-Borrowed-clause-accepted c = search rules

pub returns-in-Owned-clause-means : goal.returns-in-Owned-clause-means
returns-in-Owned-clause-means c =
    let told : CowStr Global → Type 0 = λ text. IfOk c.try_from_string.result (λ s. Means (cow_str_bytes text) s.sets) in
    subst told (sym c.in-Owned.is) c.try_from_string.ensures.means

pub returns-in-Owned-clause-source : goal.returns-in-Owned-clause-source
returns-in-Owned-clause-source c = search rules

pub returns-in-Owned-clause-refused : goal.returns-in-Owned-clause-refused
returns-in-Owned-clause-refused c = search rules
