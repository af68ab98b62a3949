-- What a reader must believe of orders: specs/Order.antt has the words, specs/Checks.antt the checks along an order.
pub mod Order
pub mod Checks
