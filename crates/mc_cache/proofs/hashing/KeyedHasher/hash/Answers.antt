use Rattle.std.proofs.Common.{◌≡◌, ℕ, ◌+◌, ◌-◌, ap, sym, ◌∙◌, arith, length, refl}
use Rattle.std.specs.Hash.DefaultHasher.{finish, wrapping_add, write, write_word}
use Rattle.mc_cache.specs.Hashing.{hash_of, started_by}
use Rattle.mc_cache.specs.Sip.{hasher_of}
use Rattle.mc_cache.proofs.SipWords.{with_tail, word_more}
use Rattle.mc_cache.proofs.hashing.KeyedHasher.hash.Goals as goal

pub loop-at-preserved : goal.loop-at-preserved
loop-at-preserved c =
    let inv = c.loop-at.invariant in
    let key = c.args.key.now in
    let at = c.loop-at.at in
    let lanes = c.loop-at.lanes in
    let count : ℕ = wrapping_add 16 at in
    let next : wrapping_add 16 (at + 8) ≡ wrapping_add count 8 = omega arith in
    let after = c.with_word-lanes.ensures 0 count ∙ ap (write_word (hasher_of lanes 0 count)) c.word_at.ensures in record {
      inside = omega arith;
      whole = omega (arith, inv.whole);
      so_far = (λ i. with_tail (after i) 0 (next i))
          ∙ word_more (started_by c.args.self.now) (hasher_of lanes 0 count) key at (omega arith) (c.type_inv.key at).fits (omega arith) (omega (arith, inv.whole)) refl inv.so_far;
    }

pub returns : goal.returns
unfolding hash_of write
returns c =
    let inv = c.loop-at.invariant in
    let key = c.args.key.now in
    let at = c.loop-at.at in
    let lanes = c.loop-at.lanes in
    let count : ℕ = wrapping_add 16 at in
    let all : wrapping_add count (length key - at) ≡ wrapping_add 16 (length key) = omega (arith, inv.inside) in
    let end = c.tail_of.ensures lanes (started_by c.args.self.now) count (omega arith) (omega (arith, inv.whole)) inv.so_far in
    c.finish.ensures ∙ ap finish ((λ i. hasher_of lanes c.tail_of.result (sym all i)) ∙ end)
