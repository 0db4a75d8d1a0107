mod Firsts
mod OverLaws
mod TableOrders
mod RouteTable
mod SubnetTable
mod UnionLaws
mod ViewLaws
mod CodeLaws
pub mod NumberedKeys
pub mod Bounds
pub mod MapLaws
