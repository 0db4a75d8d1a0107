pub mod MemberKey
pub mod MemberList
pub mod IntfIndex
