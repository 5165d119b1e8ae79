use Rattle.std.proofs.Common.{◌≡◌, ◌++◌, ◌∷◌, [], All, Bool, List, false, if◌then◌else◌, is_ok, true}
use Rattle.std.proofs.lemmas.List.Elements.{All-push, All-same}
use Rattle.mc_cache.specs.Belonging.{BelongsTo}
use Rattle.example_cache.specs.declared.client.Client.{Client}
use Rattle.example_cache.proofs.client.add_client.Goals as goal

-- whether it was added or not
either_way : (P : Client → Type 0) (added : Bool) (xs all : List Client) (x : Client) → all ≡ (if added then xs ++ x ∷ [] else xs) → P x → All P xs → All P all
either_way P true xs all x is own h = All-same P all (xs ++ x ∷ []) is (All-push P xs x h own)
either_way P false xs all x is own h = All-same P all xs is h

pub returns : goal.returns
returns c = either_way (λ client. BelongsTo c.args.cache.now client.worker) (is_ok c.push-added.result) c.args.clients.now.items c.push-added.new.list.items c.args.client c.push-added.ensures.items c.requires.client c.requires.clients
