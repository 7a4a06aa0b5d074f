use Rattle.std.proofs.Common.{◌≡◌, ◌+◌, ◌-◌, ◌/◌, suc, length, refl, sym, ap, ◌∙◌, arith, rules}
use Rattle.std.specs.Int.RustNames.{bit_xor}
use Rattle.uc_run.specs.KeyHash.{word_factor, last_factor, state_after, key_hash, folded_product, word_at}
use Rattle.uc_run.proofs.hashing.key_hash.Goals as goal

pub loop-word-init : goal.loop-word-init
unfolding state_after
loop-word-init c = refl

pub loop-word-preserved : goal.loop-word-preserved
unfolding state_after
loop-word-preserved c =
    let key = c.args.key.now in
    let next : c.loop-word.word + 1 ≡ suc c.loop-word.word = omega arith in
    c.folded_product-state.ensures
    ∙ ap (λ state. folded_product (bit_xor state c.word_at.result) word_factor) c.loop-word.invariant
    ∙ ap (λ word. folded_product (bit_xor (state_after key c.loop-word.word) word) word_factor) c.word_at.ensures
    ∙ ap (state_after key) (sym next)

pub returns : goal.returns
unfolding key_hash
returns c =
    let key = c.args.key.now in
    let whole : c.loop-word.word ≡ (length key - 1) / 8 = search rules in
    let last : c.saturating_sub.result ≡ length key - 8 = search rules in
    c.folded_product-2.ensures
    ∙ ap (λ state. folded_product state last_factor)
    (c.folded_product.ensures
    ∙ ap (λ state. folded_product (bit_xor state c.word_at-last.result) word_factor) (c.loop-word.invariant ∙ ap (state_after key) whole)
    ∙ ap (λ word. folded_product (bit_xor (state_after key ((length key - 1) / 8)) word) word_factor) (c.word_at-last.ensures ∙ ap (word_at key) last))
