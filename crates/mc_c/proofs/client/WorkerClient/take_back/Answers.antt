use Rattle.std.proofs.Common.{All, ◌∷◌, [], ◌<◌, ℕ, arith, get_or, length, subst, suc, sym, zero}
use Rattle.std.specs.Arc.{arc_value}
use Rattle.std.proofs.lemmas.List.Elements.{All-append}
use Rattle.mc_cache.specs.declared.cache.Cache.{Cache}
use Rattle.mc_cache.specs.Resting.{RestsIn}
use Rattle.mc_c.proofs.client.WorkerClient.take_back.Goals as goal

each_one : {A : Type 0} (P : A → Type 0) (x : A) → P x → (place : ℕ) (other : A) → place < length (x ∷ []) → P (get_or (x ∷ []) place other)
each_one P x own zero other less = own
each_one P x own (suc place) other less = absurd (omega (arith, less))

pub invariant_of-self : goal.invariant_of-self
invariant_of-self c =
    let cache : Cache = arc_value c.args.self.now.cache in
    record {
      rests = c.args.self.now.rests;
      spares = subst (All (RestsIn cache)) (sym c.push_reserved.ensures.items)
          (All-append (RestsIn cache) c.args.self.now.spare.items (c.in-Worker.joined.worker ∷ []) c.args.self.now.spares (each_one (RestsIn cache) c.in-Worker.joined.worker (subst (λ (of : Cache). RestsIn of c.in-Worker.joined.worker) (c.requires.cache c.in-Worker.joined c.in-Worker.is) c.in-Worker.joined.rests)));
    }
