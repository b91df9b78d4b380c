use mathlib.Core.Path.{◌≡◌, refl, sym, ◌∙◌}
use denote.Enum.Bare.{sameb}
use Rattle.request.specs.contracts.mode.Mode.{the_type}
use Rattle.request.specs.declared.mode.Mode.{Mode}
use Rattle.request.specs.declared.mode.Mode.TheVariants.{Ir, Sensor, IrBlaster, LedLighting}
use Rattle.connector.specs.Change.{same_mode, with_mode}
use Rattle.connector.proofs.records.with_mode.Goals as goal

-- `==` of two modes is whether they are the same
same_is : (a b : Mode) → sameb the_type a b ≡ same_mode a b
same_is Ir b = elim b as (λ m. sameb the_type Ir m ≡ same_mode Ir m) [ Ir ↦ refl | Sensor ↦ refl | IrBlaster ↦ refl | LedLighting ↦ refl ]
same_is Sensor b = elim b as (λ m. sameb the_type Sensor m ≡ same_mode Sensor m) [ Ir ↦ refl | Sensor ↦ refl | IrBlaster ↦ refl | LedLighting ↦ refl ]
same_is IrBlaster b = elim b as (λ m. sameb the_type IrBlaster m ≡ same_mode IrBlaster m) [ Ir ↦ refl | Sensor ↦ refl | IrBlaster ↦ refl | LedLighting ↦ refl ]
same_is LedLighting b = elim b as (λ m. sameb the_type LedLighting m ≡ same_mode LedLighting m) [ Ir ↦ refl | Sensor ↦ refl | IrBlaster ↦ refl | LedLighting ↦ refl ]

pub returns-then-eq : goal.returns-then-eq
unfolding with_mode
returns-then-eq c = rw (sym (same_is _ _) ∙ sym c.eq.ensures ∙ c.if-eq.true)

pub returns : goal.returns
unfolding with_mode
returns c = rw (sym (same_is _ _) ∙ sym c.eq.ensures ∙ c.if-eq.false, c.dark.ensures)
