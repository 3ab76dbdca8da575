use Rattle.std.proofs.Common.{pos, sym, ap, subst, ◌∙◌, inl, inr}
use Rattle.jiff_core.specs.declared.Offset.{Offset}
use Rattle.jiff_tz.specs.declared.timezone.TimeZone.TheVariants.{UTC, Unknown, Fixed}
use Rattle.cron_clocks.specs.Clocks.{IsKeptUpTo, LookupsAgree}
use Rattle.cron_clocks.proofs.FixedZones.{fixed_agree}
use Rattle.cron_agenda.proofs.NextLemmas.{fixed_always, kept_for_good, unknown_always, utc_always}
use Rattle.cron_agenda.proofs.next.kept_from.Goals as goal

pub returns-in-UTC-clause-agree : goal.returns-in-UTC-clause-agree
returns-in-UTC-clause-agree c =
    elim c.in-UTC.is [
      | inl e ↦ subst LookupsAgree (sym e ∙ c.to_plain.ensures) (fixed_agree UTC tt)
      | inr e ↦ subst LookupsAgree (sym e ∙ c.to_plain.ensures) (fixed_agree Unknown tt)
    ]

pub returns-in-UTC-clause-kept : goal.returns-in-UTC-clause-kept
returns-in-UTC-clause-kept c =
    rw (c.kept_always.ensures.end, ap (λ (o : Offset). o.seconds) c.kept_always.ensures.offset)
    (elim c.in-UTC.is [
      | inl e ↦ subst (λ z. IsKeptUpTo z c.args.at 4_294_967_295 (pos 0)) (sym e ∙ c.to_plain.ensures) (kept_for_good UTC (pos 0) c.args.at utc_always c.requires.1)
      | inr e ↦ subst (λ z. IsKeptUpTo z c.args.at 4_294_967_295 (pos 0)) (sym e ∙ c.to_plain.ensures) (kept_for_good Unknown (pos 0) c.args.at unknown_always c.requires.1)
    ])

pub returns-in-Fixed-clause-agree : goal.returns-in-Fixed-clause-agree
returns-in-Fixed-clause-agree c = subst LookupsAgree (sym c.in-Fixed.is ∙ c.to_plain.ensures) (fixed_agree (Fixed c.in-Fixed.offset) tt)

pub returns-in-Fixed-clause-kept : goal.returns-in-Fixed-clause-kept
returns-in-Fixed-clause-kept c =
    rw (c.kept_always-in-Fixed.ensures.end, ap (λ (o : Offset). o.seconds) (c.kept_always-in-Fixed.ensures.offset ∙ c.from_plain.ensures))
    (subst (λ z. IsKeptUpTo z c.args.at 4_294_967_295 c.in-Fixed.offset.seconds) (sym c.in-Fixed.is ∙ c.to_plain.ensures)
    (kept_for_good (Fixed c.in-Fixed.offset) c.in-Fixed.offset.seconds c.args.at (fixed_always c.in-Fixed.offset) c.requires.1))
