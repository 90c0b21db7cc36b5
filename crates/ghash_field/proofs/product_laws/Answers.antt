use Rattle.ghash_field.proofs.FieldLaws.{product-comm, product-assoc, product-linear, one-product}
use Rattle.ghash_field.proofs.product_laws.Goals as goal

pub returns : goal.returns
returns c = record {
  commutes = product-comm;
  associates = product-assoc;
  distributes = product-linear;
  one = one-product;
}
