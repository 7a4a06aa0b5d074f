use Rattle.std.proofs.Common.{◌≡◌, ◌≢◌, ◌⊎◌, ◌+◌, ◌<◌, ◌++◌, ◌∷◌, [], inl, inr, ℕ, List, length, sym, ap, ◌∙◌, subst, arith}
use Rattle.uc_rows.specs.RowBytes.{Row, row_bytes}
use Rattle.uc_rows.specs.Laying.{AreLaid}
use Rattle.uc_rows.specs.declared.laying.Laid.{Laid}
use Rattle.uc_rows.proofs.Fitted.{length_of_row}
use Rattle.uc_rows.proofs.LaidMore.{laid_more, counted_more}
use Rattle.uc_rows.proofs.laying.Laid.add.Goals as goal
use Rattle.uc_rows.proofs.laying.Laid.add.Goals.{then-self+then-size-room, else-self, else-self-via-then-self+else-size-room, else-self-via-else-self}

pub returns : goal.returns
returns c rows first so_far =
    let row : Row = (c.args.key.now, c.args.value.now) in
    let laid = c.args.self.now in
    let room = c.args.room.now in
    let one = length_of_row row in
    let sum : c.in-Some.size ≡ laid.size + length (row_bytes row) = omega (arith, c.in-Some.ensures, one) in
    let next : c.in-Some-checked_add.rows ≡ laid.rows + 1 = omega (arith, c.in-Some-checked_add.ensures) in
    let count = c.in-Some-checked_add.rows in
    let counted : (laid.fitting ≢ laid.rows) ⊎ (length room < c.in-Some.size) → c.if-self.room ≡ room → c.if-self.self.fitting ≡ laid.fitting →
    AreLaid (rows ++ row ∷ []) first c.if-self.room (record { rows = count; fitting = c.if-self.self.fitting; size = c.in-Some.size }) = λ lacks same fit.
    subst (λ (p : List ℕ × ℕ). AreLaid (rows ++ row ∷ []) first p.0 (record { rows = count; fitting = p.1; size = c.in-Some.size }))
    (λ i. (sym same i, sym fit i)) (counted_more rows row first room laid so_far count c.in-Some.size lacks next sum) in
    elim c.if-self.branch [
      | then-self+then-size-room w ↦
          let more = laid_more rows row first room laid so_far count c.in-Some.size w.if-self.true next sum w.if-size-room.true in
          subst (λ (p : List ℕ × ℕ). AreLaid (rows ++ row ∷ []) first p.0 (record { rows = count; fitting = p.1; size = c.in-Some.size }))
          (λ i. (sym (w.room-is ∙ w.lay.ensures) i, sym (ap (λ (l : Laid). l.fitting) w.self-is) i)) more
      | else-self w ↦ elim w.else-self.branch [
        | else-self-via-then-self+else-size-room v ↦ counted (inr v.if-size-room.false) w.room-is (ap (λ (l : Laid). l.fitting) w.self-is)
        | else-self-via-else-self v ↦ counted (inl v.if-self.false) w.room-is (ap (λ (l : Laid). l.fitting) w.self-is)
      ]
    ]
