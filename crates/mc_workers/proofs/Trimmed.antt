-- What a trim did, by its answer.
use Rattle.std.proofs.Common.{◌≡◌, Result, Ok, Err, OnOk, refl, subst, sym}
use Rattle.mc_stripe.specs.declared.refusal.Trim.{Trim}
use Rattle.mc_stripe.specs.declared.refusal.Trim.TheVariants.{Full, NoMemory}
use Rattle.mc_words.specs.declared.hand.Hand.{Hand}
use Rattle.mc_words.specs.hand.Arenas.{view}
use Rattle.mc_words.specs.hand.Observers.{hand_number}
use Rattle.mc_words.specs.hand.View.{Setup}
use Rattle.mc_mover.specs.Recording.{FindsStripeFull, FindsNotFull, StopsTrimming, TrimsAll}
use Rattle.mc_workers.specs.Moving.{TrimsAs}

-- all was trimmed, or the first stripes, up to one that was full or for whose room memory was refused
pub trims_as : (before now : Hand) (setup : Setup) (result : Result (Unit {0}) Trim) → (view before).setup ≡ setup → OnOk result (TrimsAll (hand_number before) setup.config.stripes (view before) (view now))
    → (result ≡ Err Full → StopsTrimming (hand_number before) FindsStripeFull (view before) (view now)) → (result ≡ Err (NoMemory tt) → StopsTrimming (hand_number before) FindsNotFull (view before) (view now))
    → TrimsAs result before now
trims_as before now setup (Ok all) same whole full first = subst (λ (s : Setup). TrimsAll (hand_number before) s.config.stripes (view before) (view now)) (sym same) whole
trims_as before now setup (Err Full) same whole full first = full refl
trims_as before now setup (Err (NoMemory refused)) same whole full first = first refl
