-- The inputs by their places: each is among those that are listed. Assumes nothing.
use mathlib.Core.Path.{◌≡◌, refl}
use mathlib.Core.Logic.{inl, inr}
use Rattle.order.specs.Order.{Among}
use Rattle.magnetron.specs.Buffers.{list_of}
use Rattle.magnetron.specs.declared.buffer.BufferIndex.{BufferIndex}
use Rattle.magnetron.specs.declared.inputs.Inputs.{Inputs}
use Rattle.magnetron.specs.declared.inputs.Inputs.TheVariants.{One, Two}

pub only : {inputs : Inputs} {a : BufferIndex} → inputs ≡ One a → Among a (list_of inputs)
only q = rw q (inl refl)

pub former : {inputs : Inputs} {a b : BufferIndex} → inputs ≡ Two a b → Among a (list_of inputs)
former q = rw q (inl refl)

pub latter : {inputs : Inputs} {a b : BufferIndex} → inputs ≡ Two a b → Among b (list_of inputs)
latter q = rw q (inr (inl refl))
