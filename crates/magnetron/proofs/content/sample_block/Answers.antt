-- `magnetron::content::sample_block` meets its contract: each arm is given that the content is its variant, at which `AllInReach` and `content_of` compute.
-- Assumes nothing.
use mathlib.Core.Path.{ap₂, ◌∙◌}
use lib.Ieee.{nan, binary64, mul}
use Rattle.magnetron.proofs.Windows.{tab-at, tab_ext}
use Rattle.magnetron.proofs.content.sample_block.Goals as goal

pub returns-in-Product : goal.returns-in-Product
returns-in-Product c =
    rw c.in-Product.is
    (c.product_block.ensures
    ∙ tab_ext 8 _ _ (λ k h. ap₂ (mul binary64) (rw c.fetch_block-x.ensures (tab-at 8 _ k nan h)) (rw c.fetch_block-y.ensures (tab-at 8 _ k nan h))))
