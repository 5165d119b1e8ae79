use Rattle.std.proofs.Common.{◌∙◌, ◌≡◌, List, Ok, ap, arith, drop, get_or, inl, inr, length, subst, suc, sym, take, ℕ}
use Rattle.std.proofs.lemmas.List.{length-take-le, take_more}
use Rattle.mc_update.specs.Updates.{EndsWithoutMemory, FindsNoValue, GetsVersion, OnlyGets}
use Rattle.mc_large.specs.Keys.{part_key}
use Rattle.mc_large.proofs.Gets.{AreGot, gets_only, got_part, lacks_only, misses_next, one_got, only_got, part_taken, split_at}
use Rattle.mc_large.proofs.parts.add_parts.Goals as goal

pub returns-then-found-version-clause-misses : goal.returns-then-found-version-clause-misses
returns-then-found-version-clause-misses g c = λ is.
    let cache = c.args.cache.now in
    let key = c.args.key.now in
    let versions = c.args.versions.now in
    let i = c.loop-number.number in
    let before = c.args.worker.now in
    let between = c.loop-number.worker in
    let now = c.get_with_version.new.self in
    let old = c.args.into.now.items in
    let bytes = c.loop-number.into.items in
    let place = c.as_slice.result.now in
    let count : length (take i versions) ≡ i = length-take-le i versions (omega (arith, c.loop-number-test.true)) in
    let at : place ≡ part_key key (length (take i versions)) = c.as_slice.ensures.value ∙ (c.part_key-part.ensures ∙ ap (part_key key) (sym count)) in
    let is_key = part_taken key place (length (take i versions)) c.requires.key at in
    let did : OnlyGets cache place between now = record { calls = c.get_with_version.ensures.calls is_key; untouched = c.get_with_version.ensures.untouched is_key } in
    let got = got_part cache place (part_key key (length (take i versions))) bytes c.get_with_version.new.into.items between now c.in-Ok-Some.field-0 c.in-Ok-Some.found at c.in-Ok-Some.field-0-is c.in-Ok-Some.ensures.value did in
    misses_next cache key old bytes versions (take i versions) (drop (suc i) versions) (get_or versions i 0) before between now (split_at versions i c.loop-number-test.true) c.loop-number.invariant.1
    (inr (record { piece = got.0; other = c.in-Ok-Some.found; differs = c.if-found-version.true; gets = got.1 }))

pub returns-then-found-version-clause-only : goal.returns-then-found-version-clause-only
returns-then-found-version-clause-only g c =
    let cache = c.args.cache.now in
    let key = c.args.key.now in
    let versions = c.args.versions.now in
    let i = c.loop-number.number in
    let before = c.args.worker.now in
    let between = c.loop-number.worker in
    let now = c.get_with_version.new.self in
    let old = c.args.into.now.items in
    let bytes = c.loop-number.into.items in
    let place = c.as_slice.result.now in
    let count : length (take i versions) ≡ i = length-take-le i versions (omega (arith, c.loop-number-test.true)) in
    let at : place ≡ part_key key (length (take i versions)) = c.as_slice.ensures.value ∙ (c.part_key-part.ensures ∙ ap (part_key key) (sym count)) in
    let is_key = part_taken key place (length (take i versions)) c.requires.key at in
    let did : OnlyGets cache place between now = record { calls = c.get_with_version.ensures.calls is_key; untouched = c.get_with_version.ensures.untouched is_key } in
    let got = got_part cache place (part_key key (length (take i versions))) bytes c.get_with_version.new.into.items between now c.in-Ok-Some.field-0 c.in-Ok-Some.found at c.in-Ok-Some.field-0-is c.in-Ok-Some.ensures.value did in
    only_got cache key old bytes (take i versions) before between now c.loop-number.invariant.1 (gets_only cache (part_key key (length (take i versions))) got.0 c.in-Ok-Some.found between now got.1)

pub returns-in-Ok-None-clause-misses : goal.returns-in-Ok-None-clause-misses
returns-in-Ok-None-clause-misses g c = λ is.
    let cache = c.args.cache.now in
    let key = c.args.key.now in
    let versions = c.args.versions.now in
    let i = c.loop-number.number in
    let before = c.args.worker.now in
    let between = c.loop-number.worker in
    let now = c.get_with_version.new.self in
    let old = c.args.into.now.items in
    let bytes = c.loop-number.into.items in
    let place = c.as_slice.result.now in
    let count : length (take i versions) ≡ i = length-take-le i versions (omega (arith, c.loop-number-test.true)) in
    let at : place ≡ part_key key (length (take i versions)) = c.as_slice.ensures.value ∙ (c.part_key-part.ensures ∙ ap (part_key key) (sym count)) in
    let is_key = part_taken key place (length (take i versions)) c.requires.key at in
    let did : OnlyGets cache place between now = record { calls = c.get_with_version.ensures.calls is_key; untouched = c.get_with_version.ensures.untouched is_key } in
    let lacks : FindsNoValue cache (part_key key (length (take i versions))) between now = subst (λ (p : List ℕ). FindsNoValue cache p between now) at (record { none = c.get_with_version.ensures.none (c.in-Ok-None.is ∙ ap Ok c.in-Ok-None.field-0-is); only = did }) in
    misses_next cache key old bytes versions (take i versions) (drop (suc i) versions) (get_or versions i 0) before between now (split_at versions i c.loop-number-test.true) c.loop-number.invariant.1 (inl lacks)

pub returns-in-Ok-None-clause-only : goal.returns-in-Ok-None-clause-only
returns-in-Ok-None-clause-only g c =
    let cache = c.args.cache.now in
    let key = c.args.key.now in
    let versions = c.args.versions.now in
    let i = c.loop-number.number in
    let before = c.args.worker.now in
    let between = c.loop-number.worker in
    let now = c.get_with_version.new.self in
    let old = c.args.into.now.items in
    let bytes = c.loop-number.into.items in
    let place = c.as_slice.result.now in
    let count : length (take i versions) ≡ i = length-take-le i versions (omega (arith, c.loop-number-test.true)) in
    let at : place ≡ part_key key (length (take i versions)) = c.as_slice.ensures.value ∙ (c.part_key-part.ensures ∙ ap (part_key key) (sym count)) in
    let is_key = part_taken key place (length (take i versions)) c.requires.key at in
    let did : OnlyGets cache place between now = record { calls = c.get_with_version.ensures.calls is_key; untouched = c.get_with_version.ensures.untouched is_key } in
    let lacks : FindsNoValue cache (part_key key (length (take i versions))) between now = subst (λ (p : List ℕ). FindsNoValue cache p between now) at (record { none = c.get_with_version.ensures.none (c.in-Ok-None.is ∙ ap Ok c.in-Ok-None.field-0-is); only = did }) in
    only_got cache key old bytes (take i versions) before between now c.loop-number.invariant.1 (lacks_only cache (part_key key (length (take i versions))) between now lacks)

pub returns-in-Err-NoMemory-clause-only : goal.returns-in-Err-NoMemory-clause-only
returns-in-Err-NoMemory-clause-only g c =
    let cache = c.args.cache.now in
    let key = c.args.key.now in
    let versions = c.args.versions.now in
    let i = c.loop-number.number in
    let before = c.args.worker.now in
    let between = c.loop-number.worker in
    let now = c.get_with_version.new.self in
    let old = c.args.into.now.items in
    let bytes = c.loop-number.into.items in
    let place = c.as_slice.result.now in
    let count : length (take i versions) ≡ i = length-take-le i versions (omega (arith, c.loop-number-test.true)) in
    let at : place ≡ part_key key (length (take i versions)) = c.as_slice.ensures.value ∙ (c.part_key-part.ensures ∙ ap (part_key key) (sym count)) in
    let is_key = part_taken key place (length (take i versions)) c.requires.key at in
    let did : OnlyGets cache place between now = record { calls = c.get_with_version.ensures.calls is_key; untouched = c.get_with_version.ensures.untouched is_key } in
    only_got cache key old bytes (take i versions) before between now c.loop-number.invariant.1
    (subst (λ (p : List ℕ). EndsWithoutMemory cache p between now) at (record { stores_nothing = c.in-Err-NoMemory.ensures.refused is_key; only = did }))

pub loop-number-preserved : goal.loop-number-preserved
loop-number-preserved g c =
    let cache = c.args.cache.now in
    let key = c.args.key.now in
    let versions = c.args.versions.now in
    let i = c.loop-number.number in
    let before = c.args.worker.now in
    let between = c.loop-number.worker in
    let now = c.get_with_version.new.self in
    let old = c.args.into.now.items in
    let bytes = c.loop-number.into.items in
    let place = c.as_slice.result.now in
    let count : length (take i versions) ≡ i = length-take-le i versions (omega (arith, c.loop-number-test.true)) in
    let at : place ≡ part_key key (length (take i versions)) = c.as_slice.ensures.value ∙ (c.part_key-part.ensures ∙ ap (part_key key) (sym count)) in
    let is_key = part_taken key place (length (take i versions)) c.requires.key at in
    let did : OnlyGets cache place between now = record { calls = c.get_with_version.ensures.calls is_key; untouched = c.get_with_version.ensures.untouched is_key } in
    let got = got_part cache place (part_key key (length (take i versions))) bytes c.get_with_version.new.into.items between now c.in-Ok-Some.field-0 c.in-Ok-Some.found at c.in-Ok-Some.field-0-is c.in-Ok-Some.ensures.value did in
    let part = part_key key (length (take i versions)) in
    let same : c.in-Ok-Some.found ≡ get_or versions i 0 = c.if-found-version.false in
    let gets = subst (λ (v : ℕ). GetsVersion cache part got.0 v between now) same got.1 in (
      c.get_with_version.ensures.belongs,
      subst (λ (vs : List ℕ). AreGot cache key vs old c.get_with_version.new.into.items before now) (sym (take_more versions i 0 c.loop-number-test.true))
          (one_got cache key old (take i versions) bytes c.get_with_version.new.into.items (get_or versions i 0) got.0 before between now c.loop-number.invariant.1 gets (gets_only cache part got.0 (get_or versions i 0) between now gets) got.2),
    )
