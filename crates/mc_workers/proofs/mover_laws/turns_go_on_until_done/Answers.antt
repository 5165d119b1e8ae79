use Rattle.std.proofs.Common.{◌≡◌, List, [], ◌∷◌, ◌++◌, length, refl, sym, ap, arith}
use Rattle.std.proofs.lemmas.List.Elements.{All-nil, All-cons, All-head, All-same}
use Rattle.mc_mover.specs.declared.counts.Turn.{Turn}
use Rattle.mc_mover.specs.declared.counts.Turn.TheVariants.{Idle, Went, Finished}
use Rattle.mc_serial_spec.specs.declared.turn.Ending.TheVariants as ending
use Rattle.mc_workers.specs.Moving.{AreTurnsOf, WentOn, ending_of}
use Rattle.mc_workers.specs.MoverCases.{first_counts, last_counts}
use Rattle.mc_workers.proofs.mover_laws.turns_go_on_until_done.Goals as goal

-- a list of one entry ends with it
only_last : (turn : Turn) (earlier : List Turn) (last : Turn) → turn ∷ [] ≡ earlier ++ last ∷ [] → last ≡ turn
only_last turn [] last is = cc
only_last turn (one ∷ []) last is = absurd (cc)
only_last turn (one ∷ more ∷ earlier) last is = absurd (cc)

-- one of two begins with all that came earlier
one_earlier : (turn next : Turn) (earlier : List Turn) (last : Turn) → turn ∷ next ∷ [] ≡ earlier ++ last ∷ [] → earlier ≡ turn ∷ []
one_earlier turn next [] last is = absurd (cc)
one_earlier turn next (one ∷ []) last is = cc
one_earlier turn next (one ∷ other ∷ []) last is = absurd (cc)
one_earlier turn next (one ∷ other ∷ more ∷ earlier) last is = absurd (cc)

-- one turn that went on isn't all, where two were asked for
one_is_not_enough : AreTurnsOf 2 (Went first_counts ∷ []) ending.Went → ⊥
one_is_not_enough are =
    let on : WentOn are.last = ap ending_of (only_last (Went first_counts) are.earlier are.last are.all) in
    let two : length (Went first_counts ∷ []) ≡ 2 = are.enough on in
    absurd (omega (arith, two))

-- and none is done behind one that found no move
none_behind_an_idle_one : AreTurnsOf 2 (Idle ∷ Went last_counts ∷ []) ending.Went → ⊥
none_behind_an_idle_one are =
    let on : WentOn Idle = All-head WentOn Idle [] (All-same WentOn (Idle ∷ []) are.earlier (sym (one_earlier Idle (Went last_counts) are.earlier are.last are.all)) are.went) in
    absurd (let never : ending.Idle ≡ ending.Went = on in cc)

pub returns-clause-done : goal.returns-clause-done
returns-clause-done c = (
  record {
    earlier = Went first_counts ∷ [];
    last = Finished last_counts;
    all = refl;
    went = All-cons WentOn (Went first_counts) [] refl (All-nil WentOn);
    ends = refl;
    most = omega arith;
    enough = λ on. absurd (let on' : ending.Finished ≡ ending.Went = on in cc);
  },
  record {
    earlier = [];
    last = Idle;
    all = refl;
    went = All-nil WentOn;
    ends = refl;
    most = omega arith;
    enough = λ on. absurd (let on' : ending.Idle ≡ ending.Went = on in cc);
  },
  one_is_not_enough,
  none_behind_an_idle_one,
  λ are. absurd (omega (arith, are.most)),
)
