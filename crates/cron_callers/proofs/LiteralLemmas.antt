-- What a written expression means, by computation.
use Rattle.std.proofs.Common.{List, [], ◌∷◌, drop, inl, refl, take}
use Rattle.std.specs.Prelude.{codes}
use Rattle.cron.specs.Words.{Means}
use Rattle.cron.proofs.Callers.{cron_on_literals, denotes_union, is_unit-seconds, is_unit-minutes, is_unit-hours, is_unit-days_of_month, is_unit-months, is_unit-days_of_week, every, single, name_range, plain, Token, tokens}
use Rattle.cron_callers.specs.Literals.{work_days, work_days_text}

-- six fields, each cut from the front of what is left, and no years
pub work_days_meant : Means work_days_text work_days
unfolding cron_on_literals
work_days_meant =
    let ts : List Token = tokens work_days_text in
    inl (
      take 1 ts,
      drop 1 ts,
      plain (single 0) ∷ [],
      refl,
      record { written = refl; nonempty = λ h. (cc); spaced = refl; wildcards_allowed = refl },
      denotes_union _ _ _ is_unit-seconds refl refl,
      (
        take 1 (drop 1 ts),
        drop 2 ts,
        plain (single 30) ∷ [],
        refl,
        record { written = refl; nonempty = λ h. (cc); spaced = refl; wildcards_allowed = refl },
        denotes_union _ _ _ is_unit-minutes refl refl,
        (
          take 1 (drop 2 ts),
          drop 3 ts,
          plain (single 9) ∷ [],
          refl,
          record { written = refl; nonempty = λ h. (cc); spaced = refl; wildcards_allowed = refl },
          denotes_union _ _ _ is_unit-hours refl refl,
          (
            take 1 (drop 3 ts),
            drop 4 ts,
            plain every ∷ [],
            refl,
            record { written = refl; nonempty = λ h. (cc); spaced = refl; wildcards_allowed = refl },
            denotes_union _ _ _ is_unit-days_of_month refl refl,
            (
              take 1 (drop 4 ts),
              drop 5 ts,
              plain every ∷ [],
              refl,
              record { written = refl; nonempty = λ h. (cc); spaced = refl; wildcards_allowed = refl },
              denotes_union _ _ _ is_unit-months refl refl,
              (
                drop 5 ts,
                [],
                plain (name_range (codes "Mon") (codes "Fri")) ∷ [],
                refl,
                record { written = refl; nonempty = λ h. (cc); spaced = refl; wildcards_allowed = refl },
                denotes_union _ _ _ is_unit-days_of_week refl refl,
                inl (refl, refl),
              ),
            ),
          ),
        ),
      ),
    )
