use Rattle.std.proofs.Common.{ℕ, List, refl, sym, subst, rules}
use Rattle.cron_units.specs.Sets.{Sets}
use Rattle.cron_text.specs.Fault.{IsRefusal}
use Rattle.cron_text.specs.FaultText.{fault_text}
use Rattle.cron_text.specs.Meaning.{Means}
use Rattle.cron_c.specs.Structs.{IsStructOf}
use Rattle.cron_c.proofs.ReadingLemmas.{refused_says}
use Rattle.cron_c.proofs.parse_call.parse.Goals as goal

pub fault_of-requires : goal.fault_of-requires
fault_of-requires c = c.read_into.ensures.nothing c.if-read_into.false

pub returns-then-read_into : goal.returns-then-read_into
returns-then-read_into c =
    let of_text = subst (λ (t : List ℕ). Means t c.read_into.new.fields) c.in-Ok.ensures.cases.0 (c.read_into.ensures.sets c.if-read_into.true) in
    let sets = sym c.schedule_of.ensures.sets in
    let exact = subst (λ (s : Sets). IsStructOf s c.schedule_of.result) sets c.schedule_of.ensures.exact in
    (c.in-Ok.ensures.cases.1, subst (Means c.args.text.now) sets of_text, exact, refl, refl)

pub returns-in_default : goal.returns-in_default
returns-in_default c = search rules

pub returns : goal.returns
returns c =
    let told = fault_text c.fault_of.result in
    let refusal = subst (λ (t : List ℕ). IsRefusal t told) c.in-Ok.ensures.cases.0 c.fault_of.ensures in
    refused_says c.args.text.now told c.args.schedule.now c.args.message.now c.refuse.new.message c.refuse.new.message_length c.refuse.result
    c.in-Ok.ensures.cases.1 refusal c.refuse.ensures
