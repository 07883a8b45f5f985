-- How many bytes a device has.
use Rattle.std.proofs.Common.{◌≡◌, refl}
use Rattle.state_store.specs.Rest.{device_size}

whole_device : device_size ≡ 132608
whole_device = refl
