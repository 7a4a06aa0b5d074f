-- Changes that are undone in the end.
use Rattle.std.proofs.Common.{◌≡◌, ℕ, false, cond, List, get_or, set, sym, ap, ◌∙◌}
use Rattle.std.specs.Prelude.{Option, Some, None}
use Rattle.std.proofs.lemmas.List.{set-set, set-get_or}
use Rattle.uc_oper.specs.Operation.{Operation}
use Rattle.uc_version_state.specs.declared.stretch.Stretch.{Stretch}
use Rattle.uc_version_compact.specs.declared.install_error.InstallError.TheVariants.{IdsSpent}
use Rattle.uc_version.specs.Owners.{Owner}
use Rattle.uc_version.specs.Claiming.{Claim, claim_refusal}
use Rattle.uc_version.specs.AtOnce.{after_compaction}
use Rattle.uc_query.specs.declared.reply.Reply.{Reply}
use Rattle.uc_query.specs.declared.reply.Reply.TheVariants.{Installed, Compacted, NotInstalled}
use Rattle.uc_query.specs.Names.{State, with_name}
use Rattle.uc_query.specs.Turns.{has_id, replied, compacted, install_turn, compact_turn}

-- a claim that is taken out and put back
pub put_back : (names : List (Option Claim)) (i : ℕ) (x c : Option Claim) → get_or names i None ≡ c → set (set names i x) i c ≡ names
put_back names i x c here = set-set names i x c ∙ ap (set names i) (sym here) ∙ set-get_or names i None

-- the same state, by its parts
pub same_turn : (reply : Reply) (o p : Owner) (names others : List (Option Claim)) → p ≡ o → others ≡ names →
    replied (record { owner = o; names = names }) reply ≡ record { reply = reply; state = record { owner = p; names = others } }
same_turn reply o p names others owner_is names_are =
    ap (λ (q : Owner). replied (record { owner = q; names = names }) reply) (sym owner_is)
    ∙ ap (λ (ns : List (Option Claim)). replied (record { owner = p; names = ns }) reply) (sym names_are)

-- where no id is left
pub not_installed : (m : Operation) (s : State) (name : ℕ) (found : Option Claim) (c : Claim) → found ≡ Some c → has_id s.owner.version ≡ false → install_turn m s name found ≡ replied s (NotInstalled IdsSpent)
not_installed m s name found c is none =
    ap (install_turn m s name) is
    ∙ ap (λ b. cond b (record { reply = Installed s.owner.version.next_id; state = with_name s (compacted m s.owner c) name None }) (replied s (NotInstalled IdsSpent))) none

pub not_compacted : (m : Operation) (s : State) (stretch : Stretch) → claim_refusal s.owner stretch ≡ None → has_id s.owner.version ≡ false →
    compact_turn m s stretch (claim_refusal s.owner stretch) ≡ replied s (NotInstalled IdsSpent)
not_compacted m s stretch fine none =
    ap (compact_turn m s stretch) fine
    ∙ ap
    (λ b. cond b (record { reply = Compacted s.owner.version.next_id; state = record s { owner = after_compaction m s.owner stretch } }) (replied s (NotInstalled IdsSpent)))
    none
